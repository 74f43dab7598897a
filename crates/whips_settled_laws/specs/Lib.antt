pub mod Settled
pub mod LastCut
