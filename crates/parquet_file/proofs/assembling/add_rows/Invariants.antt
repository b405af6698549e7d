use Rattle.std.proofs.Common.{◌≡◌, ◌<◌, List, map, length, true}
use Rattle.std.specs.List.{list_all}
use Rattle.row_core.specs.Views.{row_views}
use Rattle.shred.specs.Columns.{Column}
use Rattle.shred.specs.Views.{shape_view}
use Rattle.shred.specs.Ways.{highest, ways}
use Rattle.parquet_schema.specs.Leaves.{LeafIn}
use Rattle.parquet_file.specs.Internal.{levels_of, AreAllLeft, AreSoundColumns}
use Rattle.parquet_file.specs.Reading.{has_rows}
use Rattle.parquet_file.proofs.RowsAtHand.{RowsLeft}
use Rattle.parquet_file.proofs.assembling.add_rows.Given as goal

abbrev pub invariant-loop-left : goal.invariant-loop-left
invariant-loop-left l = (leaves : List LeafIn) (given : List Column) → AreAllLeft leaves l.fn.readers given
    → levels_of leaves ≡ map highest (ways (shape_view l.shape)) → 0 < length leaves
    → list_all (has_rows l.count) given ≡ true → AreSoundColumns (levels_of leaves) given
    → RowsLeft (shape_view l.shape) leaves given l.readers l.first l.most (row_views l.fn.rows.items)
    (row_views l.rows.items) l.left l.skip l.wanted

abbrev pub decreases-loop-left : goal.decreases-loop-left
decreases-loop-left l = l.left
