pub mod Acts
pub mod Lists
