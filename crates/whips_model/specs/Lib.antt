pub mod Tuples
pub mod Search
pub mod Views
pub mod Relation
pub mod Keys
