pub mod Rows
pub mod Parts
pub mod Values
pub mod Placed
