pub mod Faults
pub mod Places
pub mod Sizes
