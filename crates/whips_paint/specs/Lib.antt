pub mod Table
pub mod Entries
pub mod Bounds
pub mod Marks
