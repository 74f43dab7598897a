pub mod Columns
pub mod Choices
pub mod Views
