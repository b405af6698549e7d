use Rattle.std.proofs.Common.{◌≡◌, ◌++◌}
use Rattle.std.specs.Iterator.Adapters.{zip_first, zip_second}
use Rattle.std.specs.Slice.Iter.{iter_rest}
use Rattle.parquet_schema.specs.Leaves.{leaves_under}
use Rattle.parquet_schema.specs.Views.{leaf_views, way_names}
use Rattle.parquet_schema.proofs.PutLeaves.{each_leaves, IsNoDeeper}
use Rattle.parquet_schema.proofs.leaves.+leaves.Given as goal

-- the leaves that are put and those of the fields that are left are all leaves
abbrev pub invariant-put_fields-loop-field : goal.invariant-put_fields-loop-field
invariant-put_fields-loop-field g l = record {
  put : leaf_views l.leaves.items ++ leaves_under (way_names l.fn.way) l.fn.way.nullable.items (each_leaves (iter_rest (zip_first l.field-iterator)) (iter_rest (zip_second l.field-iterator))) ≡ leaf_views l.fn.leaves.items ++ leaves_under (way_names l.fn.way) l.fn.way.nullable.items (each_leaves l.fields l.shapes);
  names : way_names l.way ≡ way_names l.fn.way;
  falls : IsNoDeeper (iter_rest (zip_first l.field-iterator)) l.fields;
  flags : l.way.nullable.items ≡ l.fn.way.nullable.items;
}
