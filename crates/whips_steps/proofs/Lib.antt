pub mod Fills
pub mod Stepping
pub mod Whole
pub mod Found
pub mod Unconcerned
