pub mod Runs
pub mod Races
