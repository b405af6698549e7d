-- The lemmas that proofs of other crates may cite.
pub use Rattle.delta_replay.proofs.Passes.{all_pass}
pub use Rattle.delta_replay.proofs.Same.{same_snapshot}
pub use Rattle.delta_replay.proofs.Whole.{all_is_whole, whole_leaves}
