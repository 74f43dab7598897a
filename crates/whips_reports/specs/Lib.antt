pub mod Reported
pub mod Lines
pub mod Summary
