use Rattle.std.specs.Prelude.{length}
use Rattle.lake_inspect.proofs.pages.tell_levels.Given as goal

abbrev pub decreases-loop-run : goal.decreases-loop-run
decreases-loop-run l = length l.levels
