pub mod Listing
pub mod Sorting
