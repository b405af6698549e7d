use Rattle.std.proofs.Common.{◌≡◌, ◌++◌, replicate}
use Rattle.row_core.specs.Rows as rows
use Rattle.row_core.specs.Views.{row_views}
use Rattle.page_cells.proofs.plain.add_truth.Given as goal

abbrev pub invariant-loop-value : goal.invariant-loop-value
invariant-loop-value l = row_views l.out.items ≡ row_views l.fn.out.items ++ replicate l._value (rows.truth l.value)
