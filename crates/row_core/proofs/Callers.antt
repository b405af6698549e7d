-- The lemmas that proofs of other crates may cite.
pub use Rattle.row_core.proofs.Same.{same_rows-is}
pub use Rattle.row_core.proofs.ReadConforms.{row_conforms}
pub use Rattle.row_core.proofs.ConformsReads.{row_again}
pub use Rattle.row_core.proofs.Values.{view-Struct}
