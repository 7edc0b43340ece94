pub mod Refused
pub mod Turns
