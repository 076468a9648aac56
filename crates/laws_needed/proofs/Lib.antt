pub mod Leaving
pub mod Idle
pub mod Theorem
