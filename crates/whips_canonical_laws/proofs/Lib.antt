pub mod Printed
pub mod Lists
pub mod Values
pub mod Rows
pub mod Relations
pub mod Views
pub mod WholeViews
pub mod Schedules
