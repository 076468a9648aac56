pub mod Blocks
pub mod Slots
pub mod Table
