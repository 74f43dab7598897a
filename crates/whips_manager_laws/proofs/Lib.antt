pub mod Invariant
pub mod Lawful
