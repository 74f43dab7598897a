pub mod Steps
pub mod Begins
pub mod Kept
