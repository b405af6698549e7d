-- A file of some rows reads as them, and what is written for rows is a file of them.
use Rattle.std.proofs.Common.{◌≡◌, ℕ, true, List, Ok, refl}
use Rattle.parquet_file.proofs.Callers.{rows_only}
use Rattle.parquet_file.proofs.TextsInValues.{values_have_texts}
use Rattle.parquet_file.proofs.WrittenFile.{file_is_written}
use Rattle.parquet_file.specs.File.{IsFile, KeepsLimits}
use Rattle.parquet_file.specs.Reading.{rows_at}
use Rattle.parquet_file.specs.Writing.{written_file}
use Rattle.row_core.proofs.Callers.{same_rows-is}
use Rattle.row_core.specs.Rows.{Row}
use Rattle.row_core.specs.Views.{row_views}
use Rattle.schema_tree.specs.Limits.{IsWithinLimits}
use Rattle.schema_tree.specs.Schema.{columns_of, tree_of}
use Rattle.schema_tree.specs.Tree.{Tree, fields_of}
use Rattle.batch_core.specs.Requests.{IsWrittenFor, is_same}
use Rattle.batch_core.specs.declared.batch.Batch.{Batch}

pub reads_as_file : (schema : Tree) (rows : List Row) (file : List ℕ) → IsWithinLimits schema → IsFile file schema rows → KeepsLimits file rows → is_same rows (rows_at file schema) ≡ true
reads_as_file schema rows file within is limits = rw (rows_only file schema rows within is limits) ((same_rows-is rows rows).1 refl)

pub written_for : (batch : Batch) (bytes : List ℕ) → written_file (tree_of batch.schema) (row_views batch.rows.items) ≡ Ok bytes → IsWrittenFor (tree_of batch.schema) (row_views batch.rows.items) bytes
written_for batch bytes is =
    let file = file_is_written (fields_of (columns_of batch.schema)) (row_views batch.rows.items) bytes batch.schema.within_limits batch.supported batch.conform (values_have_texts batch.rows.items) is in
    record { written = is; is_file = record { within = batch.schema.within_limits; file = file.0 }; limits = file.1 }
