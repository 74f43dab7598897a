pub mod KeyedViews
pub mod Edits
pub mod Partials
pub mod Places
pub mod Laws
