pub mod Spelt
pub mod Stepping
pub mod Outcomes
