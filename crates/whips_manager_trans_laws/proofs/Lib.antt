pub mod Keys
pub mod Parts
pub mod Relations
pub mod Transaction
pub mod Unconcerned
pub mod Replies
