-- The lemmas that proofs of other crates may cite.
pub use Rattle.lake_hints.proofs.ErrorLemmas.{told_behind, told_in_turn, told_nothing, told_on, told_weaker}
