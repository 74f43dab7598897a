pub mod Changed
pub mod Unconcerned
