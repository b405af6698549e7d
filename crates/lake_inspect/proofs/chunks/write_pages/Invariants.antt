use Rattle.std.proofs.Common.{length}
use Rattle.lake_inspect.proofs.chunks.write_pages.Given as goal

-- fewer levels are left each time
abbrev pub decreases-loop-levels : goal.decreases-loop-levels
decreases-loop-levels l = length l.levels
