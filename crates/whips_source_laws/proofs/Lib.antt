pub mod Elsewhere
pub mod Updates
pub mod Lists
pub mod Transactions
pub mod Relations
pub mod Owned
pub mod Source
pub mod Sources
