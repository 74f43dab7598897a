pub mod Views
pub mod Plans
pub mod Documents
pub mod Whole
