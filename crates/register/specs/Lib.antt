pub mod Register
pub mod Demand
