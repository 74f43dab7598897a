pub mod Steps
pub mod Answers
pub mod Filled
pub mod Laws
