-- The lemmas that proofs of other crates may cite.
pub use Rattle.parquet_footer.proofs.FoundSteps.{bind_ok, ok_is, no_fault, passed, held, chosen, told_ok, bytes_before, bytes_behind, bytes_after, four_below}
pub use Rattle.parquet_footer.proofs.FoundFrame.{IsFramed, frame_found, size_kept}
pub use Rattle.parquet_footer.proofs.FooterSays.{metadata_found, metadata_again}
pub use Rattle.parquet_footer.proofs.OnlyFrame.{Parts, parts_again, frame_again}
pub use Rattle.parquet_footer.proofs.OneFooter.{one_frame, one_metadata}
