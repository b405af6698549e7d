pub mod Arguments
pub mod Asked
pub mod Words
pub mod Spelling
