use Rattle.std.proofs.Common.{◌≡◌, drop}
use Rattle.outcomes.proofs.Callers.{with_front}
use Rattle.shred.specs.Views.{column_views}
use Rattle.row_assembly.specs.Assembly.{cells_of_columns}
use Rattle.row_assembly.specs.Views.{reader_views}
use Rattle.row_assembly.proofs.cells.readers_of.Given as goal

-- the readers that are open and those of the columns that are left are all readers
abbrev pub invariant-loop-top : goal.invariant-loop-top
invariant-loop-top l =
    with_front (reader_views l.readers.items) (cells_of_columns l.rows (drop l.top-index l.tops) (column_views l.columns.items)) ≡ cells_of_columns l.rows l.tops (column_views l.fn.columns.items)
