-- The schema of a table, and its data files (Delta PROTOCOL.md, "Schema Serialization Format"; Apache Parquet, File Format).
use Rattle.std.specs.Prelude.{ℕ, List}
use Rattle.delta_actions.specs.Names.{data_file_name}
use Rattle.schema_tree.specs.Limits.{IsWithinLimits}
use Rattle.schema_tree.specs.Tree.{Tree}
use Rattle.parquet_file.specs.File.{IsFile}
use Rattle.row_core.specs.Rows.{Row}
use Rattle.table_model.specs.Table.{FileName, of_batch, named}

-- a schema: the struct of the table's columns
abbrev pub Schema : Type 0
Schema = Tree

-- These bytes are a data file of these rows, for a table of this schema, which is one that tables may have.
pub record IsFileOf (schema : Schema) (bytes : List ℕ) (rows : List Row) : Type 0 where
  pub within : IsWithinLimits schema
  pub file : IsFile bytes schema rows

-- the name under which a file lies
abbrev pub path_name : FileName → List ℕ
path_name (of_batch application number) = data_file_name application number
path_name (named key) = key
