pub mod Lent
pub mod Word
pub mod Search
pub mod Refusal
pub mod Place
pub mod Effect
