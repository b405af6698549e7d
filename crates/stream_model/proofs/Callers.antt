-- The lemmas that proofs of other crates may cite.
pub use Rattle.stream_model.proofs.Bearing.{bears_happens, told_front}
pub use Rattle.stream_model.proofs.Running.{event_grew}
