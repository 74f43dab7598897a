pub mod Rows
pub mod Columns
pub mod Relations
