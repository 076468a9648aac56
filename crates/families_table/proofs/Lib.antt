pub mod Owners
pub mod Steps
