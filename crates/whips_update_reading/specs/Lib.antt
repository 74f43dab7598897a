pub mod Updates
pub mod Sources
