pub mod Asks
pub mod Laws
pub mod Begun
