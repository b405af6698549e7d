-- What the footer of a written file says of its sizes and places (Apache Parquet, parquet.thrift: FileMetaData,
-- RowGroup, ColumnChunk and ColumnMetaData).
use Rattle.std.specs.Prelude.{◌≡◌, ℕ, ◌+◌, pos, List, [], ◌∷◌, ◌++◌, length, Some, Ok}
use Rattle.thrift_core.specs.Tree as thrift
use Rattle.thrift_core.specs.Tree.{integer, value_of_field}
use Rattle.thrift_core.specs.Writing.{written}
use Rattle.row_core.specs.Rows.{Row}
use Rattle.schema_tree.specs.Tree.{Tree}
use Rattle.row_assembly.specs.Columns.{Column, columns}
use Rattle.row_assembly.specs.Shape.{shape_of}
use Rattle.parquet_footer.specs.Frame.{framed}
use Rattle.page_writing.specs.Writing.{chunk_written}
use Rattle.parquet_schema.specs.Leaves.{LeafIn, leaves_in}
use Rattle.parquet_file.specs.Writing.{footer_form, members}

-- The struct has this number in the field of this id.
abbrev pub SaysNumber : thrift.Tree → (id number : ℕ) → Type 0
SaysNumber said id number = value_of_field (pos id) said ≡ Some (integer (pos number))

-- This is said of a chunk that begins at this place of the file and has so many bytes, headers of pages counted, and
-- so many values, nulls counted.
pub record SaysChunk (said : thrift.Tree) (place size values : ℕ) : Type 0 where
  pub meta_data : thrift.Tree
  pub inside : value_of_field (pos 3) said ≡ Some meta_data
  pub file_offset : SaysNumber said 2 place
  pub num_values : SaysNumber meta_data 5 values
  pub total_uncompressed_size : SaysNumber meta_data 6 size
  pub total_compressed_size : SaysNumber meta_data 7 size
  pub data_page_offset : SaysNumber meta_data 9 place

-- These bytes, from this place of the file on, are the pages of one leaf's column after another, with no gap between
-- them. Each column has so many levels, and this is said of its chunk.
pub data SayChunks (values : ℕ) : (place : ℕ) → List LeafIn → List Column → (bytes : List ℕ) → List thrift.Tree → Type 0 where
  no_chunk : (place : ℕ) → SayChunks values place [] [] [] []
  chunk : (place : ℕ) (l : LeafIn) (ls : List LeafIn) (c : Column) (cs : List Column) (first others : List ℕ) (said : thrift.Tree) (behind : List thrift.Tree)
      → chunk_written l.leaf_type (length l.nullable) c ≡ Ok first → length c.levels ≡ values → SaysChunk said place (length first) values
      → SayChunks values (place + length first) ls cs others behind → SayChunks values place (l ∷ ls) (c ∷ cs) (first ++ others) (said ∷ behind)

-- This is said of a row group of these rows, whose chunks are these bytes behind the first PAR1.
pub record SaysGroup (t : Tree) (rows : List Row) (bytes : List ℕ) (said : thrift.Tree) : Type 0 where
  pub shredded : List Column
  pub are : columns (shape_of t) rows ≡ Some shredded
  pub chunks : List thrift.Tree
  pub inside : value_of_field (pos 1) said ≡ Some (members chunks)
  pub each : SayChunks (length rows) 4 (leaves_in t (shape_of t)) shredded bytes chunks
  pub total_byte_size : SaysNumber said 2 (length bytes)
  pub num_rows : SaysNumber said 3 (length rows)

-- There is one row group, of all rows; none where there are no rows.
abbrev pub SayGroups : Tree → List Row → (bytes : List ℕ) → List thrift.Tree → Type 0
SayGroups t [] bytes said = (bytes ≡ []) × (said ≡ [])
SayGroups t (row ∷ rows) bytes said = (group : thrift.Tree) × (said ≡ group ∷ []) × SaysGroup t (row ∷ rows) bytes group

-- The file is its pages and its footer, and this is what the footer says of them.
pub record SaysItsSizes (t : Tree) (rows : List Row) (bytes : List ℕ) : Type 0 where
  pub pages : List ℕ
  pub footer : thrift.Tree
  pub frame : bytes ≡ framed pages (written footer_form footer)
  pub num_rows : SaysNumber footer 3 (length rows)
  pub groups : List thrift.Tree
  pub inside : value_of_field (pos 4) footer ≡ Some (members groups)
  pub each : SayGroups t rows pages groups
