pub mod Onward
pub mod Puts
