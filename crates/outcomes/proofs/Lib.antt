pub mod Callers
pub mod Loops
pub mod Outcomes
