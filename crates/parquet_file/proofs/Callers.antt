-- The lemmas that proofs of other crates may cite.
pub use Rattle.parquet_file.proofs.PartLists.{part_behind, part_of_none, part_whole}
pub use Rattle.parquet_file.proofs.RowsOnly.{rows_one, rows_only}
