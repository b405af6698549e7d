use Rattle.std.proofs.Common.{◌≡◌, ◌++◌, drop}
use Rattle.lake_bytes.specs.Hybrid.{values_of}
use Rattle.parquet_pages.proofs.pages.add_levels.Given as goal

abbrev pub invariant-loop-run : goal.invariant-loop-run
invariant-loop-run l = l.levels.items ++ values_of (drop l.run-index l.runs) ≡ l.fn.levels.items ++ values_of l.runs
