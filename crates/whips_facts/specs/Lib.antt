pub mod Scripts
pub mod ScriptFacts
pub mod Values
