pub mod First
pub mod Twice
