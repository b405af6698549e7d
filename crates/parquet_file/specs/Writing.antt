-- The bytes of the file that is written for a table's rows (Apache Parquet, File Format and parquet.thrift).
use Rattle.std.specs.Prelude.{ℕ, ◌+◌, ℤ, pos, List, [], ◌∷◌, ◌++◌, length, map, Bool, not, ◌&&◌, true, nat_lt, Option, Some, None, Result, Ok, Err, codes, if◌then◌else◌}
use Rattle.outcomes.specs.Results.{◌>>=◌, or_refusal, refused_if}
use Rattle.thrift_core.specs.Tree as thrift
use Rattle.thrift_core.specs.Tree.{integer, binary, list, struct, trees_of, fields_of}
use Rattle.thrift_core.specs.Form.{Form, int32_form, int64_form, binary_form, list_form, struct_form, forms}
use Rattle.thrift_core.specs.Writing.{written}
use Rattle.row_core.specs.Rows.{Row}
use Rattle.schema_tree.specs.Tree as tree
use Rattle.schema_tree.specs.Tree.{Tree}
use Rattle.shred.specs.Columns.{Column, columns}
use Rattle.shred.specs.Shape.{shape_of}
use Rattle.parquet_footer.specs.Frame.{framed}
use Rattle.parquet_footer.specs.declared.fault.FileFault.{FileFault}
use Rattle.parquet_footer.specs.declared.fault.FileFault.TheVariants.{SchemaMismatch, TooLarge}
use Rattle.page_cells.specs.Types.{leaf_type, physical_type, type_number, converted_type}
use Rattle.page_writing.specs.Writing.{chunk_written, number_field}
use Rattle.page_cells.specs.declared.types.LeafType.{LeafType}
use Rattle.parquet_schema.specs.FileTree.{repetition}
use Rattle.parquet_schema.specs.Fitting.{count_of_columns}
use Rattle.parquet_schema.specs.Leaves.{LeafIn, leaves_in}

-- the members of a list, and the fields of a struct
abbrev pub members : List thrift.Tree → thrift.Tree
members ts = list (trees_of ts)

abbrev pub fields : List (ℤ × thrift.Tree) → thrift.Tree
fields fs = struct (fields_of fs)

-- ---- the types that a footer's values are written as

-- SchemaElement
abbrev pub element_form : Form
element_form = struct_form (forms ((pos 1, int32_form) ∷ (pos 3, int32_form) ∷ (pos 4, binary_form) ∷ (pos 5, int32_form) ∷ (pos 6, int32_form) ∷ []))

-- ColumnMetaData
abbrev pub column_form : Form
column_form = struct_form (forms ((pos 1, int32_form) ∷ (pos 2, list_form int32_form) ∷ (pos 3, list_form binary_form) ∷ (pos 4, int32_form)
    ∷ (pos 5, int64_form) ∷ (pos 6, int64_form) ∷ (pos 7, int64_form) ∷ (pos 9, int64_form) ∷ []))

-- ColumnChunk
abbrev pub chunk_form : Form
chunk_form = struct_form (forms ((pos 2, int64_form) ∷ (pos 3, column_form) ∷ []))

-- RowGroup
abbrev pub group_form : Form
group_form = struct_form (forms ((pos 1, list_form chunk_form) ∷ (pos 2, int64_form) ∷ (pos 3, int64_form) ∷ []))

-- FileMetaData
abbrev pub footer_form : Form
footer_form = struct_form (forms ((pos 1, int32_form) ∷ (pos 2, list_form element_form) ∷ (pos 3, int64_form) ∷ (pos 4, list_form group_form) ∷ (pos 6, binary_form) ∷ []))

-- ---- the schema's list (SchemaElement)

abbrev pub converted_fields : Option ℤ → List (ℤ × thrift.Tree)
converted_fields None = []
converted_fields (Some number) = (pos 6, integer number) ∷ []

-- a leaf: its physical type, its repetition, its name and its converted type, if it has one
abbrev pub leaf_element : (name : List ℕ) (nullable : Bool) → LeafType → thrift.Tree
leaf_element name nullable type = fields ((pos 1, integer (type_number (physical_type type))) ∷ (pos 3, integer (repetition nullable))
    ∷ (pos 4, binary name) ∷ converted_fields (converted_type type))

-- a group: its repetition, its name and how many fields it has
abbrev pub group_element : (name : List ℕ) (nullable : Bool) (count : ℕ) → thrift.Tree
group_element name nullable count = fields ((pos 3, integer (repetition nullable)) ∷ (pos 4, binary name) ∷ number_field 5 count ∷ [])

-- the root, named `schema`
abbrev pub root_element : (count : ℕ) → thrift.Tree
root_element count = fields ((pos 4, binary (codes "schema")) ∷ number_field 5 count ∷ [])

abbrev pub leaf_elements : (name : List ℕ) (nullable : Bool) → Option LeafType → List thrift.Tree
leaf_elements name nullable None = []
leaf_elements name nullable (Some type) = leaf_element name nullable type ∷ []

-- the nodes, depth first, with the table's own flags
abbrev mutual
  pub node_elements : (name : List ℕ) (nullable : Bool) → Tree → List thrift.Tree
  node_elements name nullable (tree.leaf p) = leaf_elements name nullable (leaf_type p)
  node_elements name nullable (tree.struct fs) = group_element name nullable (count_of_columns fs) ∷ field_elements fs
  node_elements name nullable t = []

  pub field_elements : tree.Fields → List thrift.Tree
  field_elements tree.no_fields = []
  field_elements (tree.field name t nullable metadata fs) = node_elements name nullable t ++ field_elements fs

abbrev pub schema_elements : Tree → List thrift.Tree
schema_elements (tree.struct fs) = root_element (count_of_columns fs) ∷ field_elements fs
schema_elements t = []

-- ---- chunks

-- What is said of a leaf's chunk, which begins at a place and has so many bytes (ColumnMetaData). Its encodings are PLAIN
-- and RLE, its codec is UNCOMPRESSED, and its sizes count its pages with their headers.
abbrev pub column_tree : LeafIn → (place size rows : ℕ) → thrift.Tree
column_tree l place size rows = fields ((pos 1, integer (type_number (physical_type l.leaf_type))) ∷ (pos 2, members (integer (pos 0) ∷ integer (pos 3) ∷ []))
    ∷ (pos 3, members (map binary l.names)) ∷ number_field 4 0 ∷ number_field 5 rows ∷ number_field 6 size ∷ number_field 7 size ∷ number_field 9 place ∷ [])

-- ColumnChunk
abbrev pub chunk_tree : LeafIn → (place size rows : ℕ) → thrift.Tree
chunk_tree l place size rows = fields (number_field 2 place ∷ (pos 3, column_tree l place size rows) ∷ [])

-- The chunk of a leaf from a place on: its bytes, and what is said of it. It doesn't end behind 64 MiB.
unfoldable pub chunk_from : (place rows : ℕ) → LeafIn → Column → Result (List ℕ × thrift.Tree) FileFault
chunk_from place rows l c = do
  chunk ← chunk_written l.leaf_type (length l.nullable) c
  fits ← refused_if (nat_lt 67108864 (place + length chunk)) TooLarge
  Ok (chunk, chunk_tree l place (length chunk) rows)

-- The chunks of the leaves, from a place on one behind the other: their bytes, and what is said of each.
unfoldable pub chunks_from : (place rows : ℕ) → List LeafIn → List Column → Result (List ℕ × List thrift.Tree) FileFault
chunks_from place rows (l ∷ ls) (c ∷ cs) = do
  first ← chunk_from place rows l c
  others ← chunks_from (place + length first.0) rows ls cs
  Ok (first.0 ++ others.0, first.1 ∷ others.1)
chunks_from place rows _ _ = Ok ([], [])

-- ---- the group

-- RowGroup
abbrev pub group_tree : (chunks : List thrift.Tree) (size rows : ℕ) → thrift.Tree
group_tree chunks size rows = fields ((pos 1, members chunks) ∷ number_field 2 size ∷ number_field 3 rows ∷ [])

-- One group of all rows, behind the magic bytes: the bytes of its chunks, and what is said of it.
unfoldable pub group_written : Tree → List Row → Result (List ℕ × thrift.Tree) FileFault
group_written t rows = do
  cs ← or_refusal (columns (shape_of t) rows) SchemaMismatch
  chunks ← chunks_from 4 (length rows) (leaves_in t (shape_of t)) cs
  Ok (chunks.0, group_tree chunks.1 (length chunks.0) (length rows))

-- no group without rows
abbrev pub groups_written : Tree → List Row → Result (List ℕ × List thrift.Tree) FileFault
groups_written t [] = Ok ([], [])
groups_written t (row ∷ rows) = group_written t (row ∷ rows) >>= λ group. Ok (group.0, group.1 ∷ [])

-- ---- the file

-- FileMetaData
abbrev pub footer_tree : Tree → (groups : List thrift.Tree) (rows : ℕ) → thrift.Tree
footer_tree t groups rows = fields (number_field 1 1 ∷ (pos 2, members (schema_elements t)) ∷ number_field 3 rows ∷ (pos 4, members groups)
    ∷ (pos 6, binary (codes "lake version 1")) ∷ [])

abbrev pub footer_bytes : Tree → (groups : List thrift.Tree) (rows : ℕ) → List ℕ
footer_bytes t groups rows = written footer_form (footer_tree t groups rows)

-- no name is longer than a file may be
abbrev mutual
  pub is_short_named : Tree → Bool
  is_short_named (tree.struct fs) = are_short_named fs
  is_short_named t = true

  pub are_short_named : tree.Fields → Bool
  are_short_named tree.no_fields = true
  are_short_named (tree.field name t nullable metadata fs) = not (nat_lt 67108864 (length name)) && (is_short_named t && are_short_named fs)

-- the file of these pages and of a footer
abbrev pub file_within_limit : (pages footer : List ℕ) → Result (List ℕ) FileFault
file_within_limit pages footer = if nat_lt 67108864 (length (framed pages footer)) then Err TooLarge else Ok (framed pages footer)

-- What is written, or that it is too large: a file has 4,194,304 rows at most, and 64 MiB.
unfoldable pub written_file : Tree → List Row → Result (List ℕ) FileFault
written_file t rows = do
  few ← refused_if (nat_lt 4194304 (length rows)) TooLarge
  named ← refused_if (not (is_short_named t)) TooLarge
  groups ← groups_written t rows
  file_within_limit groups.0 (footer_bytes t groups.1 (length rows))
