use Rattle.std.proofs.Common.{◌≡◌, take, drop, map}
use Rattle.shred.specs.Views.{cells_view}
use Rattle.row_assembly.specs.Assembly.{heads}
use Rattle.row_assembly.specs.Views.{reader_views}
use Rattle.row_assembly.proofs.cells.next_cells.Given as goal

-- the readers in front have given their cells
abbrev pub invariant-loop-reader : goal.invariant-loop-reader
invariant-loop-reader l = record {
  cells : cells_view l.cells.items ≡ heads (reader_views (take l.reader-index l.initial.readers));
  left : reader_views (take l.reader-index l.readers) ≡ map (drop 1) (reader_views (take l.reader-index l.initial.readers));
  others : drop l.reader-index l.readers ≡ drop l.reader-index l.initial.readers;
}
