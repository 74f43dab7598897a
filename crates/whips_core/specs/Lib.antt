pub mod Groups
pub mod Queues
pub mod Pipelines
pub mod Cores
