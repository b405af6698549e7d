use Rattle.std.proofs.Common.{◌≡◌, ◌++◌, drop, map}
use Rattle.shred.specs.Ways.{highest}
use Rattle.shred.specs.Views.{way_view}
use Rattle.row_assembly.proofs.assembling.highest_levels.Given as goal

-- the levels that are put and those of the ways that are left are all levels
abbrev pub invariant-loop-way : goal.invariant-loop-way
invariant-loop-way l = l.levels.items ++ map (λ w. highest (way_view w.items)) (drop l.way-index l.way-items) ≡ map (λ w. highest (way_view w.items)) l.way-items
