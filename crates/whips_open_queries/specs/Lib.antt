pub mod Names
pub mod OpenQueries
pub mod Deletions
