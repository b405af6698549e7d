-- Which bytes are a Parquet file of a table's rows (Apache Parquet, File Format).
use Rattle.std.specs.Prelude.{◌≡◌, ℕ, ◌<◌, ◌≤◌, ◌^◌, ◌&&◌, pos, List, [], ◌∷◌, ◌++◌, length, All, Bool, true, Some, ◌⊎◌}
use Rattle.std.specs.List.{AllZip}
use Rattle.std.specs.Str.{is_utf8}
use Rattle.row_core.specs.Conforms.{Conforms}
use Rattle.row_core.specs.Rows.{Value, Values, Row, text, structure, no_values, value}
use Rattle.schema_tree.specs.Tree.{Tree}
use Rattle.shred.specs.Columns.{Column, AreColumnsOf}
use Rattle.shred.specs.Shape.{Shape}
use Rattle.parquet_footer.specs.Footer.{FooterSays}
use Rattle.parquet_footer.specs.Frame.{magic, framed}
use Rattle.parquet_footer.specs.Metadata.{ColumnChunk, RowGroup, FileMetaData}
use Rattle.parquet_pages.specs.Pages.{Leaf, ChunkHolds}
use Rattle.parquet_schema.specs.FileTree as trees
use Rattle.parquet_schema.specs.FileTree.{FileFields, IsSchemaList}
use Rattle.parquet_schema.specs.Fitting.{fitted}
use Rattle.parquet_schema.specs.Leaves.{LeafIn, leaves_in}

-- The first chunk with this path.
abbrev pub IsChunkOf : List (List ℕ) → List ColumnChunk → ColumnChunk → Type 0
IsChunkOf path [] chunk = ⊥
IsChunkOf path (first ∷ others) chunk = ((first.path_in_schema ≡ path) × (chunk ≡ first)) ⊎ ((first.path_in_schema ≡ path → ⊥) × IsChunkOf path others chunk)

-- a leaf, as its pages are read
abbrev pub leaf_of : LeafIn → Leaf
leaf_of l = record { leaf_type = l.leaf_type; nullable = l.nullable }

-- The leaf's chunk isn't compressed, and its pages hold this column.
pub record HoldsColumn (given : List ℕ) (chunks : List ColumnChunk) (l : LeafIn) (c : Column) : Type 0 where
  pub chunk : ColumnChunk
  pub found : IsChunkOf l.names chunks chunk
  pub uncompressed : chunk.codec ≡ pos 0
  pub counted : chunk.num_values ≡ length c.levels
  pub pages : ChunkHolds (leaf_of l) given chunk.data_page_offset c

-- The rows of one group: its chunks hold their columns, one for each leaf, by the file's own flags.
pub record IsGroup (given : List ℕ) (t : Tree) (shape : Shape) (group : RowGroup) (rows : List Row) : Type 0 where
  pub columns : List Column
  pub held : AllZip (HoldsColumn given group.columns) (leaves_in t shape) columns
  pub are : AreColumnsOf shape rows columns
  pub counted : group.num_rows ≡ length rows

-- the rows of several groups, one group behind the other
abbrev pub AreGroups : List ℕ → Tree → Shape → List RowGroup → List Row → Type 0
AreGroups given t shape [] rows = rows ≡ []
AreGroups given t shape (g ∷ groups) rows = (first others : List Row) × IsGroup given t shape g first × AreGroups given t shape groups others × (rows ≡ first ++ others)

-- the texts in a row are UTF-8
abbrev mutual
  pub has_texts : Value → Bool
  has_texts (text s) = is_utf8 s
  has_texts (structure vs) = have_texts vs
  has_texts v = true

  pub have_texts : Values → Bool
  have_texts no_values = true
  have_texts (value v vs) = has_texts v && have_texts vs

-- These bytes are a Parquet file of these rows, for a table of this schema: the frame, a footer whose columns are the
-- table's, groups that hold the rows one after the other, and counts that agree. All rows conform to the schema.
pub record IsFile (bytes : List ℕ) (t : Tree) (rows : List Row) : Type 0 where
  pub pages : List ℕ
  pub footer : List ℕ
  pub metadata : FileMetaData
  pub frame : bytes ≡ framed pages footer
  pub length_fits : length footer < 2 ^ 32
  pub says : FooterSays footer metadata
  pub columns : FileFields
  pub listed : IsSchemaList columns metadata.schema
  pub shape : Shape
  pub table : fitted t (trees.group columns) ≡ Some shape
  pub groups : AreGroups (magic ++ pages) t shape metadata.row_groups rows
  pub counted : metadata.num_rows ≡ length rows
  pub conform : All (Conforms t) rows
  pub texts : All (λ row. has_texts row ≡ true) rows

-- The limits of what is read: 64 MiB, and 4,194,304 rows.
pub record KeepsLimits (bytes : List ℕ) (rows : List Row) : Type 0 where
  pub size : length bytes ≤ 67108864
  pub most_rows : length rows ≤ 4194304
