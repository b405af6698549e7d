pub mod Metadata
pub mod View
