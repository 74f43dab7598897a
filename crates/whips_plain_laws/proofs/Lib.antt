pub mod Made
pub mod Read
pub mod Updates
pub mod Objects
pub mod Documents
