pub mod Needs
pub mod Writers
pub mod Events
