pub mod Places
pub mod Changed
pub mod Started
pub mod Carried
pub mod Orders
pub mod Tested
