use Rattle.std.proofs.Common.{drop}
use Rattle.row_assembly.specs.Assembly.{heads}
use Rattle.row_assembly.specs.Neighbours.{HeadsAgree}
use Rattle.row_assembly.specs.Views.{level_views, reader_leaves}
use Rattle.row_assembly.proofs.parts.levels_agree.Given as goal

-- where the levels that are left agree, all do
abbrev pub invariant-loop-reader : goal.invariant-loop-reader
invariant-loop-reader l = HeadsAgree l.before (reader_leaves (drop l.reader-index l.readers)) (heads (level_views (drop l.reader-index l.readers))) → HeadsAgree 0 (reader_leaves l.readers) (heads (level_views l.readers))
