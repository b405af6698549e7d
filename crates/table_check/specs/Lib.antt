pub mod Below
pub mod Following
pub mod Lines
pub mod Named
pub mod Walked
pub use Rattle.log_laws.specs.Sound as SoundStores
