pub mod Beside
pub mod Calls
pub mod Faults
