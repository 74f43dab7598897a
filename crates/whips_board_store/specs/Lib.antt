pub mod Words
pub mod Past
pub mod Stores
