use Rattle.std.proofs.Common.{◌≡◌, ◌++◌, replicate}
use Rattle.parquet_pages.proofs.pages.add_level.Given as goal

abbrev pub invariant-loop-level : goal.invariant-loop-level
invariant-loop-level l = l.levels.items ≡ l.fn.levels.items ++ replicate l._level l.run.value
