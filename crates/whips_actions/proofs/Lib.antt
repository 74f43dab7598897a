pub mod Acts
pub mod Edits
