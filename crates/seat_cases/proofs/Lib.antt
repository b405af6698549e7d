pub mod Sharing
mod Working
