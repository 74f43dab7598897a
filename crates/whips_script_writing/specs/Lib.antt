pub mod Objects
pub mod Relations
pub mod Views
pub mod Scripts
