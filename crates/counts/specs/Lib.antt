pub mod Lit
pub mod Calls
pub mod Band
