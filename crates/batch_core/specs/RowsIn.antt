-- The rows of a batch, as JSON, for a table of any schema.
use Rattle.std.specs.Prelude.{ℕ, ◌+◌, List, [], ◌∷◌, Option, Some, None, Result, Ok, Err}
use Rattle.serde_json.specs.Data.{Items, no_items, item}
use Rattle.outcomes.specs.Results.{◌>>=◌, refused_as}
use Rattle.row_core.specs.Fault as faults
use Rattle.row_core.specs.Reading.{row_of}
use Rattle.row_core.specs.Rows.{Row}
use Rattle.row_core.specs.Unsupported.{unsupported}
use Rattle.schema_tree.specs.Fault.{Path}
use Rattle.schema_tree.specs.Tree.{Tree}
use Rattle.batch_core.specs.Refusals.{SinkRefusal, bad_row}

abbrev pub unless_unsupported : Option Path → Result (Unit {0}) SinkRefusal
unless_unsupported None = Ok tt
unless_unsupported (Some path) = Err (bad_row 0 (faults.unsupported path))

-- A column without rows is told before any row is looked at.
abbrev pub takes_rows : Tree → Result (Unit {0}) SinkRefusal
takes_rows schema = unless_unsupported (unsupported schema)

-- the rows, of which the first has that index; or the first row that is wrong
unfoldable pub rows_from : ℕ → Tree → Items → Result (List Row) SinkRefusal
rows_from index schema no_items = Ok []
rows_from index schema (item d ds) = do
  first ← refused_as (bad_row index) (row_of schema d)
  others ← rows_from (index + 1) schema ds
  Ok (first ∷ others)
