pub mod Strike
pub mod Entry
pub mod Reading
pub mod Face
pub mod Kinds
pub mod Blob
