use Rattle.std.specs.Prelude.{length}
use Rattle.page_cells.proofs.LevelsSeen.{IsSeen}
use Rattle.page_cells.proofs.levels.tell.Given as goal

abbrev pub invariant-loop-run : goal.invariant-loop-run
invariant-loop-run l = IsSeen l.nullable l.fn.levels l.levels l.told

abbrev pub decreases-loop-run : goal.decreases-loop-run
decreases-loop-run l = length l.levels
