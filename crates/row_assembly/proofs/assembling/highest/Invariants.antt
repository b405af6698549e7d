use Rattle.std.proofs.Common.{◌≡◌, ◌≤◌, drop}
use Rattle.shred.specs.Ways.{highest, highest_from}
use Rattle.shred.specs.Views.{way_view}
use Rattle.row_assembly.proofs.assembling.highest.Given as goal

-- the steps that are left count up to the highest level
abbrev pub invariant-loop-step : goal.invariant-loop-step
invariant-loop-step l = record {
  counts : highest_from l.level (way_view (drop l.step-index l.way)) ≡ highest (way_view l.way);
  small : l.level ≤ l.step-index;
}
