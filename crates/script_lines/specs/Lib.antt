pub mod Fields
pub mod Lines
pub mod Names
pub mod Splitting
