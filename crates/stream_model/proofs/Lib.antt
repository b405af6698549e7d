mod Bearing
mod Begun
pub mod Callers
mod Calls
mod Effects
mod Good
mod Growing
mod Lacking
mod Landing
mod Laws
mod Once
mod Readers
mod Refused
mod Running
mod Seen
mod Steps
