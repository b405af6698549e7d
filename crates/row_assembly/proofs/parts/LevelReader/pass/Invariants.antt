use Rattle.std.proofs.Common.{◌≡◌, drop}
use Rattle.row_assembly.specs.Views.{level_view, reader_leaf}
use Rattle.row_assembly.proofs.parts.LevelReader.pass.Given as goal

-- passing what is left passes all
abbrev pub invariant-loop-left : goal.invariant-loop-left
invariant-loop-left l = record {
  left : drop l.left (level_view l.self) ≡ drop l.initial.left (level_view l.initial.self);
  leaf : reader_leaf l.self ≡ reader_leaf l.initial.self;
}

abbrev pub decreases-loop-left : goal.decreases-loop-left
decreases-loop-left l = l.left
