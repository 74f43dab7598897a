pub mod Painting
pub mod Listing
pub mod Forming
pub mod Unready
