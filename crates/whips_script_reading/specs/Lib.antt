pub mod Views
pub mod Script
