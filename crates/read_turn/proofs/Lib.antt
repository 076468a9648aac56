pub mod Turning
pub mod Kept
