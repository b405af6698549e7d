use Rattle.std.proofs.Common.{◌≡◌, length}
use Rattle.row_assembly.specs.Views.{level_view, reader_leaf}
use Rattle.row_assembly.proofs.parts.LevelReader.to_next_run.Given as goal

-- no level is lost
abbrev pub invariant-loop-self : goal.invariant-loop-self
invariant-loop-self l = record {
  same : level_view l.self ≡ level_view l.initial.self;
  leaf : reader_leaf l.self ≡ reader_leaf l.initial.self;
}

abbrev pub decreases-loop-self : goal.decreases-loop-self
decreases-loop-self l = length l.self.rest.items
