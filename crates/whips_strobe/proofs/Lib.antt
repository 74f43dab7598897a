pub mod Insertions
pub mod Seeds
pub mod Struck
pub mod Replies
pub mod Sound
pub mod Wide
pub mod Fitted
mod Strikes
pub mod Routes
