-- The lemmas that proofs of other crates may cite.
pub use Rattle.thrift_core.proofs.Again.{struct_at_again}
pub use Rattle.thrift_core.proofs.Conditions.{Conditions, conditions}
pub use Rattle.thrift_core.proofs.Found.{struct_at_found}
pub use Rattle.thrift_core.proofs.Told.{one_tree}
pub use Rattle.thrift_core.proofs.WrittenSpells.{struct_written}
