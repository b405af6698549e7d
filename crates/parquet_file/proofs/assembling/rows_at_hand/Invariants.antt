use Rattle.std.proofs.Common.{◌<◌, ◌≤◌, All, List, take}
use Rattle.shred.specs.Columns.{Column}
use Rattle.parquet_schema.specs.Leaves.{LeafIn}
use Rattle.parquet_file.specs.Internal.{AreAllLeft, AreAtHand, HasLevels}
use Rattle.parquet_file.proofs.assembling.rows_at_hand.Given as goal

-- the readers in front have so many cells at hand
abbrev pub invariant-loop-reader : goal.invariant-loop-reader
invariant-loop-reader l = record {
  few : l.rows ≤ l.most;
  at_hand : (leaves : List LeafIn) (given : List Column) → AreAllLeft leaves l.initial.readers given
      → AreAllLeft leaves l.readers given × AreAtHand l.rows (take l.reader-index l.readers)
      × (0 < l.most → All HasLevels given → 0 < l.rows);
}
