-- What a footer's tree says of its file (Parquet, FileMetaData and the structs inside it).
use Rattle.std.specs.Prelude.{ℕ, ℤ, pos, List, [], ◌∷◌, Option, Some, unwrap_or, Result, Ok, if◌then◌else◌}
use Rattle.std.specs.Ordering.{int_eq}
use Rattle.outcomes.specs.Results.{◌>>=◌}
use Rattle.thrift_core.specs.Tree.{Tree}
use Rattle.thrift_values.specs.declared.fault.ThriftFault.{ThriftFault}
use Rattle.thrift_core.specs.Fields.{as_integer, as_text, as_struct, as_list, optional, needed, natural, count, each}

-- A node of the schema, which is a list of its nodes depth first, each with its count of children (SchemaElement).
-- A node without children is a leaf.
pub record SchemaElement : Type 0 where
  pub physical_type : Option ℤ
  pub repetition_type : Option ℤ
  pub name : List ℕ
  pub num_children : ℕ

-- One column of one row group (ColumnChunk with its ColumnMetaData): the names on its path, its codec, how many
-- values it has, and where its first data page begins.
pub record ColumnChunk : Type 0 where
  pub path_in_schema : List (List ℕ)
  pub codec : ℤ
  pub num_values : ℕ
  pub data_page_offset : ℤ

-- A row group.
pub record RowGroup : Type 0 where
  pub columns : List ColumnChunk
  pub num_rows : ℕ

-- A file.
pub record FileMetaData : Type 0 where
  pub schema : List SchemaElement
  pub num_rows : ℕ
  pub row_groups : List RowGroup

-- The root has a name and a count of children.
unfoldable pub root_of : Tree → Result SchemaElement ThriftFault
root_of t = do
  name ← needed as_text (pos 4) t
  num_children ← count (pos 5) t
  Ok (record { physical_type = optional as_integer (pos 1) t; repetition_type = optional as_integer (pos 3) t; name = name; num_children = num_children })

-- the physical type, which a leaf has to have
unfoldable pub physical_type_of : ℤ → Tree → Result (Option ℤ) ThriftFault
physical_type_of num_children t = if int_eq num_children (pos 0) then (needed as_integer (pos 1) t >>= λ physical_type. Ok (Some physical_type)) else Ok (optional as_integer (pos 1) t)

-- Another node has a name and a repetition, and a leaf a physical type.
unfoldable pub node_of : Tree → Result SchemaElement ThriftFault
node_of t = do
  physical_type ← physical_type_of (unwrap_or (optional as_integer (pos 5) t) (pos 0)) t
  repetition_type ← needed as_integer (pos 3) t
  name ← needed as_text (pos 4) t
  num_children ← natural (unwrap_or (optional as_integer (pos 5) t) (pos 0))
  Ok (record { physical_type = physical_type; repetition_type = Some repetition_type; name = name; num_children = num_children })

-- the first node is the root
abbrev pub schema_of : List Tree → Result (List SchemaElement) ThriftFault
schema_of [] = Ok []
schema_of (root ∷ nodes) = root_of root >>= λ first. each node_of nodes >>= λ others. Ok (first ∷ others)

unfoldable pub chunk_of : Tree → Result ColumnChunk ThriftFault
chunk_of t = do
  column ← needed as_struct (pos 3) t
  path_in_schema ← needed (as_list as_text) (pos 3) column
  codec ← needed as_integer (pos 4) column
  num_values ← count (pos 5) column
  data_page_offset ← needed as_integer (pos 9) column
  Ok (record { path_in_schema = path_in_schema; codec = codec; num_values = num_values; data_page_offset = data_page_offset })

unfoldable pub group_of : Tree → Result RowGroup ThriftFault
group_of t = do
  members ← needed (as_list as_struct) (pos 1) t
  columns ← each chunk_of members
  num_rows ← count (pos 3) t
  Ok (record { columns = columns; num_rows = num_rows })

-- What the tree says, or which needed field is missing, of another kind or a negative count. The fields are
-- looked at by rising ids, each with its inside.
unfoldable pub metadata_of : Tree → Result FileMetaData ThriftFault
metadata_of t = do
  nodes ← needed (as_list as_struct) (pos 2) t
  schema ← schema_of nodes
  num_rows ← count (pos 3) t
  members ← needed (as_list as_struct) (pos 4) t
  row_groups ← each group_of members
  Ok (record { schema = schema; num_rows = num_rows; row_groups = row_groups })
