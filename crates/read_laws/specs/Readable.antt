-- Files that can be read.
use Rattle.std.specs.Prelude.{◌≡◌, ℕ, List, Contains, Some}
use Rattle.store_core.specs.Objects.{Objects, object_at}
use Rattle.delta_actions.specs.Names.{data_file_name}
use Rattle.source_core.specs.ParquetFile.{KeepsLimits}
use Rattle.table_model.specs.Table.{Batch, Entry, batches}

-- The file of each of a table's batches keeps the limits of what is read.
abbrev pub HasReadableFiles : Objects → List Entry → Type 0
HasReadableFiles objects entries = (b : Batch) (bytes : List ℕ) → Contains (batches entries) b → object_at objects (data_file_name b.application b.number) ≡ Some bytes → KeepsLimits bytes b.rows
