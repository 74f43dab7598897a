pub mod Events
pub mod Sessions
pub mod Schedules
pub mod Plans
