use Rattle.std.proofs.Common.{drop, take}
use Rattle.parquet_footer.specs.Views.{chunk_views}
use Rattle.parquet_schema.specs.Views.{leaf_views}
use Rattle.parquet_file.specs.Reading.{columns_at}
use Rattle.parquet_file.proofs.TestedColumns.{TestedSoFar}
use Rattle.parquet_file.proofs.columns.tested_columns.Given as goal

-- the columns of the leaves in front were tested
abbrev pub invariant-loop-leaf : goal.invariant-loop-leaf
invariant-loop-leaf g l =
    TestedSoFar l.passed (leaf_views (take l.leaf-index l.leaves)) l.readers.items
    (columns_at l.bytes (chunk_views l.chunks) (leaf_views (drop l.leaf-index l.leaves)))
    (columns_at l.bytes (chunk_views l.chunks) (leaf_views l.leaves))
