pub mod ViewDefs
pub mod Refusals
pub mod Widths
