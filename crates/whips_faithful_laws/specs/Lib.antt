pub mod Faithful
pub mod Laws
pub mod Scans
pub mod Runs
