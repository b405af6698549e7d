-- The lemmas that proofs of other crates may cite.
pub use Rattle.parquet_schema.proofs.LeafLevels.{leaf_levels}
pub use Rattle.parquet_schema.proofs.OwnTree.{own_tree_fits}
pub use Rattle.parquet_schema.proofs.SchemaLists.{list_found, list_read, one_tree}
