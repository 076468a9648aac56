pub mod Controlled
