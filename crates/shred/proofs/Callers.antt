-- The lemmas that proofs of other crates may cite.
pub use Rattle.shred.proofs.ConformsFits.{row_fits}
pub use Rattle.shred.proofs.Matrix.{all_fit, columns_found, first_fits, fronts, matrix, others_fit}
pub use Rattle.shred.proofs.RowCells.{absent_cells, absent_length, cells_found, cells_length, cells_of, cells_of_fields, field_length, fits_field, fits_inside, fits_null, not_null, null_is, under_length}
