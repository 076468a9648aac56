pub mod Records
pub mod Motions
pub mod Runs
pub mod Needs
