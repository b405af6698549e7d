use Rattle.std.proofs.Common.{◌≡◌, false, length, take}
use Rattle.std.specs.List.{list_any}
use Rattle.delta_actions.specs.Commit.{lines_of}
use Rattle.lake_command.specs.Status.{is_refusal}
use Rattle.lake_command.proofs.telling.has_refusal.Given as goal

abbrev pub invariant-loop-line : goal.invariant-loop-line
invariant-loop-line l = record {
  none : list_any is_refusal (take (length l.yielded) (lines_of l.text)) ≡ false;
}
