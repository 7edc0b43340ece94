pub mod Rectangle
pub mod Sizes
