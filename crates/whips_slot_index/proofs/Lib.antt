pub mod Found
pub mod Shown
pub mod Visits
pub mod Built
pub mod Sought
