pub mod Strings
pub mod Words
