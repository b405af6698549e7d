mod Bearing
pub mod Callers
mod MoreCalls
pub mod Showing
mod Stores
