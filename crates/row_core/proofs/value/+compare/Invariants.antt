use Rattle.std.proofs.Common.{◌≡◌, drop, length}
use Rattle.row_core.specs.Rows.{same_rows}
use Rattle.row_core.specs.Views.{row_views}
use Rattle.row_core.proofs.value.+compare.Given as goal

-- the rows seen are equal, so those left decide
abbrev pub invariant-same_rows-loop-row : goal.invariant-same_rows-loop-row
invariant-same_rows-loop-row l =
    same_rows (row_views l.rows) (row_views l.others) ≡ same_rows (row_views (drop (length l.yielded) l.rows)) (row_views (drop (length l.yielded) l.others))
