pub mod Calls
pub mod Driving
pub mod Following
pub mod Reading
