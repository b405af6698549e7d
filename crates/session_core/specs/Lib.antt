pub mod CallEffects
pub mod Sessions
pub mod Shown
pub mod Stores
pub mod Talks
