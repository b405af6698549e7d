-- The lemmas that proofs of other crates may cite.
pub use Rattle.batch_core.proofs.BatchReads.{batch_reads}
pub use Rattle.batch_core.proofs.RequestParts.{HasRead, IsOfNumber, asked_parts, behind_number, behind_rows, behind_schema, close_parts, numbered_parts, refused_parts, repeats_last}
pub use Rattle.batch_core.proofs.FileLemmas.{reads_as_file}
