pub mod Merged
pub mod States
