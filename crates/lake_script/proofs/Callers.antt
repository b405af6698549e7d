-- The lemmas that proofs of other crates may cite.
pub use Rattle.lake_script.proofs.JobReplies.{job_grows, job_told, unrun_told, valid_task}
pub use Rattle.lake_script.proofs.RestoredLemmas.{well_of_empty}
pub use Rattle.lake_script.proofs.ScriptLemmas.{few_lines}
pub use Rattle.read_laws.proofs.Callers.{kept_reads, reads_log, sound_kept}
