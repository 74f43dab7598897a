pub mod Versions
pub mod Stores
pub mod Calls
pub mod Sound
pub mod Reads
pub mod First
