pub mod Bytes
pub mod Lines
pub mod Options
pub mod Outcome
pub mod Results
