pub mod Sheet
pub mod Lines
pub mod Command
pub mod Passes
