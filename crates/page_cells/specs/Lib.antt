pub mod Types
pub mod Plain
pub mod Texts
pub mod Levels
pub mod Outcome
pub mod Internal
pub mod Left
