pub mod Copies
pub mod Outcomes
