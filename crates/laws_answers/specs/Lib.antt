pub mod Statements
pub mod Old
