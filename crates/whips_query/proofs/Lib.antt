pub mod Ordered
pub mod Stepped
pub mod Extended
pub mod JoinedRows
pub mod Leading
