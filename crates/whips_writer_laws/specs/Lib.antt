pub mod Needs
pub mod Writers
