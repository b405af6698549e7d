pub mod Candidates
pub mod Commits
pub mod CommitSessions
pub mod Conflicts
pub mod CreateSessions
pub mod Creating
pub mod Histories
pub mod Texts
pub use Rattle.log_laws.specs.TableConflicts
pub use Rattle.log_laws.specs.TableSchema
pub use Rattle.log_laws.specs.TableCommits
pub use Rattle.log_laws.specs.Groups
pub use Rattle.log_laws.specs.SoundTables
pub use Rattle.log_laws.specs.Holds
pub use Rattle.log_laws.specs.Sound as SoundStores
pub use Rattle.log_laws.specs.LawfulLogs
