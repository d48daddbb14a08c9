pub mod Writing
pub mod Cu
pub mod Bitmap
pub mod Conversion
pub mod Shown
pub mod Tests
pub mod Planned
