-- The lemmas that proofs of other crates may cite.
pub use Rattle.read_laws.proofs.KeptFiles.{kept_files}
pub use Rattle.read_laws.proofs.KeptLaws.{kept_part, sound_kept}
pub use Rattle.read_laws.proofs.KeptLog.{are_made, files_stand, made_of, none_behind}
pub use Rattle.read_laws.proofs.KeptTail.{IsPlain, IsTold, entries_found, file_read, handed_told, kept_plain}
pub use Rattle.read_laws.proofs.KeptTails.{IsRead, ReadsAs, kept_reads, reads_all, reads_answered, reads_log}
pub use Rattle.read_laws.proofs.KeptVersions.{count_kept, has_commits, log_kept, versions_kept}
pub use Rattle.read_laws.proofs.ReaderLaws.{follow_parts, limits_same, one_part, read_may, stays_offset}
