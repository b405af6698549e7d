use Rattle.std.proofs.Common.{◌≡◌, ◌≤◌, drop}
use Rattle.row_core.specs.Views.{value_view}
use Rattle.shred.specs.Columns.{cell, cell_from}
use Rattle.shred.specs.Views.{way_view}
use Rattle.shred.proofs.shredding.cell_of.Given as goal

-- the steps that are left lead to the row's cell
abbrev pub invariant-loop-step : goal.invariant-loop-step
invariant-loop-step l = record {
  leads : cell_from (way_view (drop l.step-index l.way)) l.level (value_view l.value) ≡ cell (way_view l.way) (value_view l.fn.row);
  small : l.level ≤ l.step-index;
}
