pub mod Shortest
pub mod Least
pub mod Spelt
