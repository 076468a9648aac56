pub mod Theorems
pub mod Numbers
pub mod Judged
pub mod Old
