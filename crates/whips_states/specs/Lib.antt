pub mod States
pub mod Concerns
pub mod Net
pub mod Laws
