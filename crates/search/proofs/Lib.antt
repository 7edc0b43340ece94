pub mod Least
pub mod Reading
pub mod Examples
