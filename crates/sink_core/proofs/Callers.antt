-- The lemmas that proofs of other crates may cite.
pub use Rattle.sink_core.proofs.RestoredAppends.{appended_alike, append_plan_alike, close_plan_alike, closed_alike, close_same, request_same}
