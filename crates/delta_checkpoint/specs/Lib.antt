pub mod Checkpoints
pub mod Faults
pub mod Names
pub mod Tests
