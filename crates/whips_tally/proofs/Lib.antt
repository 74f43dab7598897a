mod Records
mod Ended
pub mod Summaries
mod Texts
