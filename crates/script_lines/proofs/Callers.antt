-- The lemmas that proofs of other crates may cite.
pub use Rattle.script_lines.proofs.Moments.{reading_timely}
