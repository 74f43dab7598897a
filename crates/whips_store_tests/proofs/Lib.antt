pub mod Handed
pub mod FourSlots
pub mod OneView
