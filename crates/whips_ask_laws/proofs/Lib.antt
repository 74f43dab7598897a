pub mod Extended
pub mod Askable
pub mod Named
pub mod After
pub mod Bases
