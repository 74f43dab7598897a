pub mod Checked
pub mod Valued
pub mod Netted
