pub mod Premises
pub mod Ends
