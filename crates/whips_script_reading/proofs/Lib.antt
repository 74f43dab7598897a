pub mod Over
pub mod Documents
