use Rattle.shred.specs.Columns as columns
use Rattle.parquet_pages.specs.Held.{AreLeft}
use Rattle.parquet_pages.specs.Pages as pages
use Rattle.parquet_pages.proofs.PassedCells.{PassedSoFar}
use Rattle.parquet_pages.proofs.reader.ColumnReader.pass.Given as goal

abbrev pub invariant-loop-wanted : goal.invariant-loop-wanted
invariant-loop-wanted l = (leaf : pages.Leaf) (c : columns.Column) → AreLeft leaf l.fn.self c
    → PassedSoFar leaf l.self l.count l.wanted c

abbrev pub decreases-loop-wanted : goal.decreases-loop-wanted
decreases-loop-wanted l = l.wanted
