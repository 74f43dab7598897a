pub mod Agree
pub mod Flights
pub mod Inputs
pub mod Setups
pub mod Sources
pub mod Standing
