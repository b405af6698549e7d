use Rattle.std.proofs.Common.{◌≡◌, drop}
use Rattle.schema_tree.specs.Tree.{Tree}
use Rattle.shred.specs.Views.{shape_view}
use Rattle.parquet_footer.specs.Views.{group_views}
use Rattle.parquet_schema.specs.Views.{leaf_views}
use Rattle.parquet_file.specs.Internal.{AreLeavesOf}
use Rattle.parquet_file.specs.Reading.{rows_of_groups}
use Rattle.parquet_file.proofs.CodeSteps.{unkept}
use Rattle.parquet_file.proofs.groups.test_groups.Given as goal

abbrev pub invariant-loop-group : goal.invariant-loop-group
invariant-loop-group g l = (t : Tree) → AreLeavesOf t (shape_view l.file.shape) (leaf_views l.file.leaves.items)
    → unkept (rows_of_groups l.bytes t (shape_view l.file.shape) (group_views (drop l.group-index l.groups))) ≡ unkept (rows_of_groups l.bytes t (shape_view l.file.shape) (group_views l.groups))
