pub mod Sheets
pub mod Lines
pub mod House
pub mod Passes
