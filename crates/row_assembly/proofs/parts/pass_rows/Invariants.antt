use Rattle.std.proofs.Common.{◌≡◌, ◌++◌, map, take, drop}
use Rattle.row_assembly.specs.Views.{level_views, reader_leaves}
use Rattle.row_assembly.proofs.parts.pass_rows.Given as goal

-- the readers in front have passed the rows
abbrev pub invariant-loop-reader : goal.invariant-loop-reader
invariant-loop-reader l = record {
  left : level_views l.readers ≡ map (drop l.rows) (take l.reader-index (level_views l.initial.readers)) ++ drop l.reader-index (level_views l.initial.readers);
  leaves : reader_leaves l.readers ≡ reader_leaves l.initial.readers;
}
