pub mod Bytes
pub mod Looking
pub mod Saved
pub mod TextReads
