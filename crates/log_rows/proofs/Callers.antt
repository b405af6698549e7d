-- The lemmas that proofs of other crates may cite.
pub use Rattle.log_rows.proofs.ItemLemmas.{fault_passed, kept_both, log_items}
pub use Rattle.log_rows.proofs.PlaceLemmas.{err_moved}
pub use Rattle.log_rows.proofs.TurnLemmas.{some_wanted}
pub use Rattle.parquet_file.proofs.Callers.{rows_only}
pub use Rattle.parquet_file.proofs.RowsFound.{rows_found}
