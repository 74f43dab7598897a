pub mod Small
pub mod Layouts
