-- The lemmas that proofs of other crates may cite.
pub use Rattle.thrift_values.proofs.Views.{view-List, view-Map, key_seen, value_seen}
