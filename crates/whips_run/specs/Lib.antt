pub mod Answer
pub mod Written
pub mod Commands
pub mod Made
pub mod Outcome
