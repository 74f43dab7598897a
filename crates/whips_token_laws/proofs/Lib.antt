pub mod Manages
pub mod Projects
pub mod Sets
pub mod Tied
