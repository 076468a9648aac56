pub mod Occurs
pub mod Written
