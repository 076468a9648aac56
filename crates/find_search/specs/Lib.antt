pub mod Ready
pub mod Search
