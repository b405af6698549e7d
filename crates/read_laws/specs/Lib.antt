pub mod Kept
pub mod Readable
pub mod Readers
