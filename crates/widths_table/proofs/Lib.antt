pub mod Bounds
pub mod Lookups
