pub mod Asks
pub mod Sites
