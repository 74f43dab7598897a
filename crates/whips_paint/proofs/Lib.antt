pub mod Entries
pub mod Bounding
pub mod Spreading
pub mod Ready
pub mod Tables
