-- The lemmas that proofs of other crates may cite.
pub use Rattle.job_laws.proofs.Left.{executed}
pub use Rattle.job_laws.proofs.SameLogs.{restores}
pub use Rattle.job_laws.proofs.SavedFronts.{saved}
pub use Rattle.job_laws.proofs.SoundLines.{line_keeps_sound_bytes}
