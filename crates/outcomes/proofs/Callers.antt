-- The lemmas that proofs of other crates may cite.
pub use Rattle.outcomes.proofs.Loops.{regroup, regroup_beside, with_front, with_front_beside}
pub use Rattle.outcomes.proofs.Outcomes.{said_too}
