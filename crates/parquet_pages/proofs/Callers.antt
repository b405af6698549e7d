-- The lemmas that proofs of other crates may cite.
pub use Rattle.parquet_pages.proofs.HeldPages.{left_full}
pub use Rattle.parquet_pages.proofs.PagesFound.{chunk_found}
pub use Rattle.parquet_pages.proofs.SoundCells.{chunk_sound}
pub use Rattle.parquet_pages.proofs.PagesOnly.{chunk_only}
