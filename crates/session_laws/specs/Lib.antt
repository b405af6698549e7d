pub mod May
pub mod Moves
pub mod Rows
pub use Rattle.read_laws.specs.Readers
pub use Rattle.commit_core.specs.CreateSessions
pub use Rattle.source_core.specs.ParquetFile
pub use Rattle.table_jobs.specs.Jobs
