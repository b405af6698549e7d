use Rattle.std.proofs.Common.{◌≡◌, ◌-◌}
use Rattle.outcomes.proofs.Callers.{with_front}
use Rattle.row_core.specs.Views.{row_views}
use Rattle.shred.specs.Views.{shape_view}
use Rattle.row_assembly.specs.Assembly.{rows_made}
use Rattle.row_assembly.specs.Views.{reader_views}
use Rattle.row_assembly.proofs.assembling.read_rows.Given as goal

-- the rows that are made and those that are left are all rows
abbrev pub invariant-loop-row : goal.invariant-loop-row
invariant-loop-row l =
    with_front (row_views l.rows.items) (rows_made (shape_view l.shape) (l.count - l._row) (reader_views l.readers)) ≡ rows_made (shape_view l.shape) l.count (reader_views l.initial.readers)
