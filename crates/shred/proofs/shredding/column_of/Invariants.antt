use Rattle.std.proofs.Common.{◌≡◌, drop, map}
use Rattle.shred.specs.Columns.{column}
use Rattle.shred.specs.Views.{way_view, borrowed_value}
use Rattle.row_core.specs.Views.{row_views}
use Rattle.shred.proofs.Behind.{behind}
use Rattle.shred.proofs.shredding.column_of.Given as goal

-- the cells that are put and those of the rows that are left are the column
abbrev pub invariant-loop-row : goal.invariant-loop-row
invariant-loop-row l =
    behind l.levels.items (map borrowed_value l.values.items) (column (way_view l.way) (row_views (drop l.row-index l.rows))) ≡ column (way_view l.way) (row_views l.rows)
