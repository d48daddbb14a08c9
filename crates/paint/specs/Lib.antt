pub mod Panel
pub mod Pen
pub mod Reach
pub mod Sheet
pub mod Label
pub mod Rule
