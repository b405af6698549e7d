pub mod Shape
pub mod Fits
pub mod Ways
pub mod Columns
pub mod Parts
pub mod Views
