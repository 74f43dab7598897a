pub mod Shop
pub mod Made
pub mod Making
pub mod Worked
pub mod Bounds
