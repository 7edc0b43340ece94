pub mod Layout
pub mod Rule
pub mod Narrow
pub mod Axis
pub mod Number
