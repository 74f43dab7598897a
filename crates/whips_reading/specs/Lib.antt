pub mod Json
pub mod Places
pub mod Reading
pub mod Members
pub mod Names
