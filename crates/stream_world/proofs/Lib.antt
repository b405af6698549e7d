mod Acted
mod Calls
mod Hands
mod OverCalls
pub mod PairedTold
pub mod Places
mod Runs
mod Steps
mod Worlds
