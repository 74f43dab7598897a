pub mod Taking
pub mod Merging
pub mod Holding
