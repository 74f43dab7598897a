pub mod ByKey
pub mod Nets
pub mod Alone
