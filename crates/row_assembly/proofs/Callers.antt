-- The lemmas that proofs of other crates may cite.
pub use Rattle.row_assembly.proofs.Assembled.{assembled_sound, assembled_complete, same_rows_given}
pub use Rattle.row_assembly.proofs.CutOut.{cut_out_whole, so_many}
pub use Rattle.row_assembly.proofs.Fronts.{assembled_twice, front_even, fronts_count, fronts_even, rest_even, rests_count, rests_even}
pub use Rattle.row_assembly.proofs.MadeComplete.{has_way}
pub use Rattle.row_assembly.proofs.Mismatched.{refused_at_mismatch}
pub use Rattle.row_assembly.proofs.Proper.{way_tells}
pub use Rattle.row_assembly.proofs.RowParts.{both}
pub use Rattle.row_assembly.proofs.RowsBefore.{refused_where_stops, stops}
