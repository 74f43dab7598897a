pub mod Sessions
pub mod Records
pub mod World
pub mod Picks
