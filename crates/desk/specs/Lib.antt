pub mod Desk
pub mod Limits
