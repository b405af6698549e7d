-- The lemmas that proofs of other crates may cite.
pub use Rattle.table_jobs.proofs.OverJobs.{cache_grown}
pub use Rattle.table_jobs.proofs.QuietJobs.{quiet_job, same_drive}
