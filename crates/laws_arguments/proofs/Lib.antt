pub mod Places
pub mod Limits
pub mod Stands
pub mod Counts
pub mod Letters
pub mod OnePlace
pub mod Names
pub mod Arguments
