pub mod FactsLaws
pub mod ScriptRuns
