pub mod Managers
pub mod Messages
pub mod Invariants
