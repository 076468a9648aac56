pub mod Back
pub mod Decimals
pub mod Forms
pub mod Trip
