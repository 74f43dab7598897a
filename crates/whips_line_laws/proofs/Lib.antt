pub mod Coming
pub mod Lines
pub mod Moves
pub mod Sweeps
pub mod Taken
