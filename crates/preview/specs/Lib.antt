pub mod Begun
pub mod Help
pub mod Line
pub mod Lines
pub mod Number
pub mod Picture
pub mod Tell
