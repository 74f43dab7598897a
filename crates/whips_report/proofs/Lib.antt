pub mod Pairs
pub mod Spaced
pub mod RowTexts
