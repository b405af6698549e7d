-- The lemmas that proofs of other crates may cite.
pub use Rattle.session_laws.proofs.CreationPuts.{creation_commit}
pub use Rattle.session_laws.proofs.Entries.{IsEntryAt, batch_file, entry_at, within_table}
pub use Rattle.session_laws.proofs.Fronts.{IsFrontOf, front_of, reached_front}
pub use Rattle.session_laws.proofs.NextVersions.{get_next, reaches_some}
pub use Rattle.session_laws.proofs.ReadRows.{listed_count, no_versions, none_told}
pub use Rattle.session_laws.proofs.StreamPuts.{batch_commit, close_commit}
pub use Rattle.read_laws.proofs.Callers.{kept_files, sound_kept}
pub use Rattle.commit_core.proofs.Callers.{bears_front}
