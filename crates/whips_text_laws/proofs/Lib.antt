pub mod Commuting
pub mod Relations
pub mod Ranked
pub mod Dictionary
pub mod Known
pub mod Views
