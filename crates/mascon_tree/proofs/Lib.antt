pub mod Judging
pub mod Counted
pub mod Halved
pub mod Written
pub mod Outcomes
