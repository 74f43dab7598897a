mod Grows
mod Drains
mod PickTurns
mod Moves
mod Ways
pub mod Errors
mod Starts
mod Reading
mod Turns
mod Counted
mod Sessions
mod Choices
mod Picked
mod Picking
