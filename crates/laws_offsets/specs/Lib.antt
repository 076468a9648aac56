pub mod Stream
pub mod Groups
pub mod Lists
pub mod Offsets
pub mod Places
pub mod Frame
