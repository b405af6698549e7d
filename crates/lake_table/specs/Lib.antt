-- What the contracts of these calls speak of, passed on from the crates below. A few files have names of their own here,
-- which tell whose they are.
pub use Rattle.store_core.specs.Calls
pub use Rattle.store_core.specs.Listed
pub use Rattle.store_core.specs.Memory
pub use Rattle.store_core.specs.Objects
pub use Rattle.session_core.specs.Sessions
pub use Rattle.session_core.specs.Stores
pub use Rattle.session_core.specs.Talks
pub use Rattle.table_log.specs.Loads
pub use Rattle.log_reading.specs.LogCache
pub use Rattle.table_jobs.specs.Done
pub use Rattle.table_jobs.specs.Jobs
pub use Rattle.table_jobs.specs.Over
pub use Rattle.table_jobs.specs.Sessions as JobSessions
pub use Rattle.table_jobs.specs.Views as JobViews
pub use Rattle.table_folder.specs.Faults as FolderFaults
pub use Rattle.table_folder.specs.Traces
pub use Rattle.folder_session.specs.Beside
pub use Rattle.folder_session.specs.Runs
pub use Rattle.folder_session.specs.Snapshots
pub use Rattle.folder_session.specs.Tails
