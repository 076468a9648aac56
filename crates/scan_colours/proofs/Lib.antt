pub mod Drafts
pub mod Colours
