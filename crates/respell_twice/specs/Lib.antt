pub mod Respell
