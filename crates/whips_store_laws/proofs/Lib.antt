pub mod Lists
pub mod Unions
pub mod Slots
pub mod Places
pub mod Changed
pub mod Views
pub mod Whole
pub mod First
