pub mod Appends
pub mod Lawful
pub mod Live
pub mod Reads
pub mod Resumed
pub mod Table
pub mod Views
