pub mod ErrorOutputs
pub mod Hints
pub mod Meanings
pub mod Notes
pub mod Rowless
