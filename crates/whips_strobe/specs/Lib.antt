pub mod Strobes
pub mod Outs
pub mod Parts
pub mod Fitting
pub mod Strikes
pub mod Routes
