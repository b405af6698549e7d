pub mod View
pub mod Arrays
pub mod Rows
