pub mod Runs
pub mod Names
pub mod Texts
pub mod Lines
