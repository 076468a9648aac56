pub mod Written
pub mod Families
pub mod Exact
pub mod Asked
