use Rattle.std.specs.Iterator.Adapters.{zip_first, zip_second}
use Rattle.std.specs.Slice.Iter.{iter_rest}
use Rattle.thrift_core.specs.View.{views}
use Rattle.row_core.specs.Views.{row_views}
use Rattle.shred.specs.Views.{way_views}
use Rattle.parquet_schema.specs.Views.{leaf_views}
use Rattle.parquet_file.specs.Internal.{columns_along}
use Rattle.parquet_file.proofs.PutChunks.{AreAtEnds, LeftToPut}
use Rattle.parquet_file.proofs.writing.write_chunks.Given as goal

-- The chunks that are written and those of the leaves that are left are all chunks. Each leaf that is left stands at the
-- end of its way.
abbrev pub invariant-loop-leaf : goal.invariant-loop-leaf
invariant-loop-leaf l = record {
  put : LeftToPut l.count (leaf_views l.leaves) (columns_along (way_views l.ways) (row_views l.rows)) l.fn.out.items
      l.out.items (views l.chunks.items) (leaf_views (iter_rest (zip_first l.leaf-iterator)))
      (columns_along (way_views (iter_rest (zip_second l.leaf-iterator))) (row_views l.rows));
  ends : AreAtEnds (row_views l.rows) (leaf_views (iter_rest (zip_first l.leaf-iterator)))
      (way_views (iter_rest (zip_second l.leaf-iterator)));
}
