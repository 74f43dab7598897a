pub mod Commute
pub mod Tails
pub mod Whole
