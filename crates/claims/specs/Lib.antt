pub mod Cases
pub mod Fonts
pub mod Edges
pub mod Limits
pub mod Counts
pub mod Index
pub mod OneBody
