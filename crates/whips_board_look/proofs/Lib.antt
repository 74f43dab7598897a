pub mod Logged
pub mod Rows
pub mod Bases
pub mod Whole
