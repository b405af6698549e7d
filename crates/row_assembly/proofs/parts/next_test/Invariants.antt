use Rattle.std.proofs.Common.{◌≡◌, take}
use Rattle.shred.specs.Views.{cells_view}
use Rattle.row_assembly.specs.Assembly.{heads}
use Rattle.row_assembly.specs.Views.{level_views, reader_leaves}
use Rattle.row_assembly.proofs.parts.next_test.Given as goal

-- the readers in front have given their cells
abbrev pub invariant-loop-reader : goal.invariant-loop-reader
invariant-loop-reader l = record {
  cells : cells_view l.cells.items ≡ heads (take l.reader-index (level_views l.initial.readers));
  same : level_views l.readers ≡ level_views l.initial.readers;
  leaves : reader_leaves l.readers ≡ reader_leaves l.initial.readers;
}
