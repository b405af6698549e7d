use Rattle.std.proofs.Common.{◌≡◌, ◌++◌, [], drop}
use Rattle.row_assembly.specs.Neighbours.{levels_behind}
use Rattle.shred.specs.Views.{way_view, way_views}
use Rattle.row_assembly.specs.Views.{leaf_views}
use Rattle.row_assembly.proofs.neighbours.leaf_levels.Given as goal

-- the leaves that are put and those of the ways that are left are all leaves
abbrev pub invariant-loop-way : goal.invariant-loop-way
invariant-loop-way l = leaf_views l.leaves.items ++ levels_behind (way_view l.before) (way_views (drop l.way-index l.way-items)) ≡ levels_behind [] (way_views l.way-items)
