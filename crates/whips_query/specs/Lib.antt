pub mod Asks
pub mod Candidates
