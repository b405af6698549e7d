use Rattle.std.proofs.Common.{◌≡◌, ◌+◌, ◌≤◌, drop, length}
use Rattle.row_assembly.specs.Neighbours.{shared_steps}
use Rattle.shred.specs.Views.{way_view}
use Rattle.row_assembly.proofs.neighbours.shared_steps.Given as goal

-- what is counted and what the steps that are left share are all that is shared
abbrev pub invariant-loop-step : goal.invariant-loop-step
invariant-loop-step l = record {
  counts : l.shared + shared_steps (way_view (drop (length l.yielded) l.before)) (way_view (drop (length l.yielded) l.way)) ≡ shared_steps (way_view l.before) (way_view l.way);
  small : l.shared ≤ length l.yielded;
}
