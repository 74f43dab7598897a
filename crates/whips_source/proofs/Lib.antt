pub mod Making
pub mod Own
pub mod Parts
