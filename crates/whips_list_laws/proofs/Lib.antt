pub mod Counted
pub mod Merged
pub mod States
