-- Reading a file: its rows, or the first fault in the order of the tests.
use Rattle.std.specs.Prelude.{ℕ, ◌+◌, ◌==◌, not, pos, List, [], ◌∷◌, ◌++◌, length, Bool, true, false, ◌&&◌, bytes_eq, Option, Some, None, Result, Ok, Err, if◌then◌else◌}
use Rattle.std.specs.List.{list_all}
use Rattle.std.specs.Ordering.{int_eq}
use Rattle.outcomes.specs.Results.{◌>>=◌, or_refusal, refused_as, refused_if}
use Rattle.thrift_core.specs.Fields.{each}
use Rattle.row_core.specs.Rows.{Row}
use Rattle.schema_tree.specs.Tree.{Tree}
use Rattle.shred.specs.Columns.{Column}
use Rattle.shred.specs.Parts.{part_of}
use Rattle.shred.specs.Shape.{Shape}
use Rattle.row_assembly.specs.Assembly.{assembled}
use Rattle.parquet_footer.specs.Frame.{frame_of}
use Rattle.parquet_footer.specs.Metadata.{ColumnChunk, RowGroup, FileMetaData}
use Rattle.parquet_footer.specs.Reading.{metadata_at}
use Rattle.parquet_footer.specs.declared.fault.FileFault.{FileFault}
use Rattle.parquet_footer.specs.declared.fault.FileFault.TheVariants.{Codec, CountMismatch, SchemaMismatch}
use Rattle.parquet_pages.specs.Reading.{chunk_at}
use Rattle.parquet_schema.specs.Fitting.{fitted_list}
use Rattle.parquet_schema.specs.Leaves.{LeafIn, leaves_in}
use Rattle.parquet_file.specs.File.{leaf_of}

-- whether two paths are the same
abbrev pub same_path : List (List ℕ) → List (List ℕ) → Bool
same_path [] [] = true
same_path (name ∷ names) (other ∷ others) = bytes_eq name other && same_path names others
same_path _ _ = false

-- the first chunk with this path
abbrev pub chunk_named : List (List ℕ) → List ColumnChunk → Option ColumnChunk
chunk_named path [] = None
chunk_named path (chunk ∷ others) = if same_path chunk.path_in_schema path then Some chunk else chunk_named path others

-- the column of a leaf
unfoldable pub column_at : List ℕ → List ColumnChunk → LeafIn → Result Column FileFault
column_at given chunks l = do
  chunk ← or_refusal (chunk_named l.names chunks) SchemaMismatch
  plain ← refused_if (not (int_eq chunk.codec (pos 0))) (Codec chunk.codec)
  chunk_at (leaf_of l) given chunk.data_page_offset chunk.num_values

-- the columns of the leaves, in the table's order
abbrev pub columns_at : List ℕ → List ColumnChunk → List LeafIn → Result (List Column) FileFault
columns_at given chunks leaves = each (column_at given chunks) leaves

-- Each column has as many levels as the group has rows.
abbrev pub has_rows : ℕ → Column → Bool
has_rows rows c = length c.levels == rows

-- the rows of a group
unfoldable pub rows_of_group : List ℕ → Tree → Shape → RowGroup → Result (List Row) FileFault
rows_of_group given t shape group = do
  columns ← columns_at given group.columns (leaves_in t shape)
  counted ← refused_if (not (list_all (has_rows group.num_rows) columns)) CountMismatch
  refused_as (λ fault. SchemaMismatch) (assembled shape columns)

unfoldable pub rows_of_groups : List ℕ → Tree → Shape → List RowGroup → Result (List Row) FileFault
rows_of_groups given t shape [] = Ok []
rows_of_groups given t shape (group ∷ groups) = do
  first ← rows_of_group given t shape group
  others ← rows_of_groups given t shape groups
  Ok (first ++ others)

-- how many rows several groups claim together
abbrev pub claimed_rows : List RowGroup → ℕ
claimed_rows [] = 0
claimed_rows (group ∷ groups) = group.num_rows + claimed_rows groups

unfoldable pub footer_rows : List ℕ → Tree → FileMetaData → Result (List Row) FileFault
footer_rows given t metadata = do
  shape ← or_refusal (fitted_list t metadata.schema) SchemaMismatch
  rows ← rows_of_groups given t shape metadata.row_groups
  if length rows == metadata.num_rows then Ok rows else Err CountMismatch

-- the rows of a table of this schema
unfoldable pub rows_at : List ℕ → Tree → Result (List Row) FileFault
rows_at bytes t = do
  parts ← frame_of bytes
  metadata ← metadata_at parts.1
  footer_rows parts.0 t metadata

-- ---- a part of the rows

-- at most so many rows, from a place on, and how many there are
pub record RowsPart : Type 0 where
  pub rows : List Row
  pub total : ℕ

abbrev pub part_among : (first most : ℕ) → List Row → RowsPart
part_among first most rows = record { rows = part_of first most rows; total = length rows }

-- a part of the rows that reading gives, or why there are none
abbrev pub part_read : {E : Type 0} → (first most : ℕ) → Result (List Row) E → Result RowsPart E
part_read first most read = read >>= λ rows. Ok (part_among first most rows)

abbrev pub part_at : List ℕ → Tree → (first most : ℕ) → Result RowsPart FileFault
part_at bytes t first most = part_read first most (rows_at bytes t)
