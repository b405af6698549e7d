mod Texts
mod Lookup
mod Held
mod Steps
mod Depths
mod OneLine
mod ReadBack
mod Written
mod WrittenKinds
pub mod Callers
