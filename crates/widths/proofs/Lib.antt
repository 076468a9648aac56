pub mod Loading
pub mod Turns
