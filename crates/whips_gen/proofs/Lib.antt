mod Updates
mod Sound
mod Makings
mod Small
mod Stay
mod Roomy
pub mod Full
