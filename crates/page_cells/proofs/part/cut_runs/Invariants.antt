use Rattle.std.proofs.Common.{◌≡◌, ◌++◌, drop}
use Rattle.lake_bytes.specs.Hybrid.{values_of}
use Rattle.shred.specs.Parts.{part_of}
use Rattle.page_cells.proofs.part.cut_runs.Given as goal

abbrev pub invariant-loop-run : goal.invariant-loop-run
invariant-loop-run l = values_of l.cut.items ++ part_of l.before l.wanted (values_of (drop l.run-index l.runs))
    ≡ part_of l.skip l.count (values_of l.runs)
