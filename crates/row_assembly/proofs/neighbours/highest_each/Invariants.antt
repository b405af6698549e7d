use Rattle.std.proofs.Common.{◌≡◌, ◌++◌, drop}
use Rattle.row_assembly.specs.Neighbours.{tops_in}
use Rattle.row_assembly.specs.Views.{leaf_views}
use Rattle.row_assembly.proofs.neighbours.highest_each.Given as goal

-- the levels that are put and those of the leaves that are left are all levels
abbrev pub invariant-loop-leaf : goal.invariant-loop-leaf
invariant-loop-leaf l = l.tops.items ++ tops_in (leaf_views (drop l.leaf-index l.leaves)) ≡ tops_in (leaf_views l.leaves)
