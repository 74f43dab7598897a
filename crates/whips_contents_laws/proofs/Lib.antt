pub mod Fitting
pub mod Follows
pub mod Kept
pub mod Takes
