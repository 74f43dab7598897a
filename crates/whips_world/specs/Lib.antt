pub mod Lines
pub mod Runs
pub mod Readers
pub mod Picks
