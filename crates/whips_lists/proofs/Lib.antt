pub mod Lists
pub mod Places
pub mod Members
pub mod Options
pub mod InList
pub mod ByPlace
pub mod Alls
