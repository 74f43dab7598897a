pub mod Setups
pub mod Limits
pub mod Refusals
pub mod Workloads
