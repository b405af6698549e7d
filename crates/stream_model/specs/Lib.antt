pub mod Actors
pub mod Effects
pub mod Events
pub mod Headline
pub mod Puts
pub mod Worlds
pub use Rattle.session_laws.specs.May
pub use Rattle.session_laws.specs.Moves
pub use Rattle.log_laws.specs.Sound as SoundStores
pub use Rattle.table_store.specs.Holds
pub use Rattle.table_store.specs.Schema as TableSchema
