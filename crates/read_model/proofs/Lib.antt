pub mod Acts
pub mod Words
pub mod Commands
pub mod Live
pub mod Rows
pub mod Few
pub mod Passes
pub mod Fits
