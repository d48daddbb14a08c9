pub mod Names
pub mod Lines
pub mod Text
pub mod Registers
pub mod Calls
pub mod Answers
