pub mod Sound
pub use Rattle.table_store.specs.Conflicts as TableConflicts
pub use Rattle.table_store.specs.Commits as TableCommits
pub use Rattle.table_store.specs.Schema as TableSchema
pub use Rattle.table_store.specs.Holds
pub use Rattle.table_store.specs.Sound as SoundTables
pub use Rattle.table_store.specs.Groups
pub use Rattle.table_store.specs.LawfulLogs
