pub mod Steps
pub mod Integers
pub mod Held
pub mod Moved
pub mod Lookup
pub mod Worded
pub mod Runs
pub mod Needed
