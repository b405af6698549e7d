use Rattle.std.proofs.Common.{◌≡◌, drop, map, min}
use Rattle.shred.specs.Views.{shape_view}
use Rattle.row_assembly.specs.Levels.{tested, rows_left, AreLong}
use Rattle.row_assembly.specs.Neighbours.{leaf_levels}
use Rattle.row_assembly.specs.Views.{level_views, reader_leaves}
use Rattle.row_assembly.proofs.parts.test_rows.Given as goal

-- testing what is left tests all
abbrev pub invariant-loop-left : goal.invariant-loop-left
invariant-loop-left l = record {
  leaves : reader_leaves l.readers ≡ reader_leaves l.initial.readers;
  left : AreLong (rows_left (level_views l.initial.readers)) (level_views l.initial.readers) → record {
    long : AreLong (rows_left (level_views l.readers)) (level_views l.readers);
    passed : map (drop l.left) (level_views l.readers) ≡ map (drop l.initial.left) (level_views l.initial.readers);
  };
  tested : reader_leaves l.initial.readers ≡ leaf_levels (shape_view l.shape) → AreLong (rows_left (level_views l.initial.readers)) (level_views l.initial.readers)
      → tested (shape_view l.shape) (min l.left (rows_left (level_views l.readers))) (level_views l.readers) ≡ tested (shape_view l.shape) (min l.initial.left (rows_left (level_views l.initial.readers))) (level_views l.initial.readers);
}

abbrev pub decreases-loop-left : goal.decreases-loop-left
decreases-loop-left l = l.left
