pub mod Answering
pub mod Outcomes
