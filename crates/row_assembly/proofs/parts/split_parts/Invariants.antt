use Rattle.std.proofs.Common.{◌≡◌, ◌+◌, ◌++◌, drop, length}
use Rattle.shred.specs.Views.{column_views, part_views}
use Rattle.row_assembly.specs.Levels.{kept_of, tests_of}
use Rattle.row_assembly.specs.Neighbours.{tops_in}
use Rattle.row_assembly.specs.Views.{leaf_views, level_views, reader_leaves}
use Rattle.row_assembly.proofs.parts.split_parts.Given as goal

-- what is split and what is left are all parts
abbrev pub invariant-loop-leaf : goal.invariant-loop-leaf
invariant-loop-leaf l = record {
  levels : level_views l.left.items ++ tests_of (tops_in (leaf_views (drop l.leaf-index l.leaves))) (part_views l.parts.items) ≡ tests_of (tops_in (leaf_views l.leaves)) (part_views l.fn.parts.items);
  kept : column_views l.kept.items ++ kept_of (tops_in (leaf_views (drop l.leaf-index l.leaves))) (part_views l.parts.items) ≡ kept_of (tops_in (leaf_views l.leaves)) (part_views l.fn.parts.items);
  readers : reader_leaves l.left.items ++ leaf_views (drop l.leaf-index l.leaves) ≡ leaf_views l.leaves;
  passed : l.leaf-index + length l.parts.items ≡ length l.fn.parts.items;
}
