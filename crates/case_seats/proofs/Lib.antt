pub mod Beside
pub mod Keeping
