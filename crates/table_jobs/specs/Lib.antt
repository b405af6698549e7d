pub mod Done
pub mod Jobs
pub mod Over
pub mod Sessions
pub mod Views
pub mod Wants
