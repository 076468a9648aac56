pub mod Scratched
pub mod Twice
