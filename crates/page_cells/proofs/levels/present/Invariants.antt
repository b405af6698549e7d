use Rattle.std.proofs.Common.{◌≡◌, ◌<◌, ◌+◌, ◌^◌, length, drop}
use Rattle.lake_bytes.specs.Hybrid.{values_of}
use Rattle.page_cells.specs.Levels.{present}
use Rattle.page_cells.proofs.levels.present.Given as goal

abbrev pub invariant-loop-run : goal.invariant-loop-run
invariant-loop-run l = length (values_of l.levels) < 2 ^ 64
    → l.count + present l.highest (values_of (drop l.run-index l.levels)) ≡ present l.highest (values_of l.levels)
