use Rattle.std.proofs.Common.{List, drop, take}
use Rattle.shred.specs.Columns.{Column}
use Rattle.parquet_schema.specs.Leaves.{LeafIn}
use Rattle.parquet_file.specs.Internal.{AreAllLeft, AreAtHand}
use Rattle.parquet_file.proofs.ReadersLeft.{TakenSoFar}
use Rattle.parquet_file.proofs.assembling.take_parts.Given as goal

-- the readers in front have given their parts
abbrev pub invariant-loop-reader : goal.invariant-loop-reader
invariant-loop-reader l =
    (leaves : List LeafIn) (given : List Column) → AreAllLeft leaves l.initial.readers given
    → AreAtHand l.count l.initial.readers
    → TakenSoFar l.first l.most l.count leaves given l.parts.items
    (take l.reader-index l.readers) (drop l.reader-index l.readers)
