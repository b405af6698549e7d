pub mod Writing
pub mod Outcome
pub mod Internal
