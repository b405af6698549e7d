use Rattle.std.proofs.Common.{rules, ◌≡◌, is_some, length, inl, inr, ◌⊎◌, ap, sym, ◌∙◌}
use Rattle.std.specs.Iterator.Adapters.{zip_first, zip_second}
use Rattle.std.specs.Slice.Iter.{iter_rest}
use Rattle.std.proofs.lemmas.Result.{err_from_is_err_and}
use Rattle.thrift_core.specs.View.{view, views}
use Rattle.row_core.specs.Views.{row_views}
use Rattle.shred.specs.Columns.{column}
use Rattle.shred.specs.Views.{way_view, way_views}
use Rattle.shred.specs.Ways.{highest}
use Rattle.parquet_schema.specs.Views.{leaf_view, leaf_views}
use Rattle.parquet_file.specs.Internal.{column_along, columns_along}
use Rattle.parquet_file.proofs.PutChunks.{all_put, at_ends, chunk_refused, next_at_end, next_column, none_left, nothing_put, one_put, said_pushed}
use Rattle.parquet_file.proofs.writing.write_chunks.Goals as goal

pub loop-leaf-init : goal.loop-leaf-init
loop-leaf-init c =
    let rows = row_views c.args.rows.now in
    let leaves : iter_rest (zip_first c.into_iter-leaf-iterator.result) ≡ c.args.leaves.now = search rules in
    let ways : iter_rest (zip_second c.into_iter-leaf-iterator.result) ≡ c.args.ways.now = search rules in
    record {
      put = nothing_put c.args.count _ _ _ _ c.args.out.now.items _ (ap leaf_views leaves)
          (ap (λ ws. columns_along (way_views ws) rows) ways) (ap views c.in_ok-chunks.ensures.items) c.requires.size;
      ends = at_ends rows _ _ _ _ (ap leaf_views leaves) (ap way_views ways) c.requires.levels c.requires.found;
    }

pub write_leaf-requires : goal.write_leaf-requires
write_leaf-requires c =
    let rows = row_views c.args.rows.now in
    let turn = c.in-Some.ensures.steps in
    let next = next_at_end rows _ _ (leaf_view c.in-Some.leaf.now) _ _ (way_view c.in-Some.way.now.items)
    (ap leaf_views turn.0) (ap way_views turn.1) c.loop-leaf.invariant.ends in
    record {
      size = c.loop-leaf.invariant.put.size;
      level = next.0 ∙ ap (λ w. highest (way_view w)) (sym c.deref.ensures.value);
      found = ap (λ w. is_some (column (way_view w) rows)) c.deref.ensures.value ∙ next.1;
    }

pub returns-in_err-write_leaf-clause-written : goal.returns-in_err-write_leaf-clause-written
returns-in_err-write_leaf-clause-written c =
    let rows = row_views c.args.rows.now in
    let p = err_from_is_err_and c.from_residual-in_err-write_leaf.result c.from_residual-in_err-write_leaf.ensures.1 in
    let turn = c.in-Some.ensures.steps in
    let columns = next_column rows _ _ _ (way_view c.deref.result.now) (ap way_views turn.1)
    (ap way_view c.deref.ensures.value) in
    rw (p.1, p.2) (chunk_refused c.args.count _ _ c.args.out.now.items c.loop-leaf.out.items (views c.loop-leaf.chunks.items)
    _ _ _ _ (leaf_view c.in-Some.leaf.now) (column_along (way_view c.deref.result.now) rows) c.in_err-write_leaf.field-0.0
    (ap leaf_views turn.0) columns c.in_err-write_leaf.ensures.written c.loop-leaf.invariant.put)

pub loop-leaf-preserved : goal.loop-leaf-preserved
loop-leaf-preserved c =
    let rows = row_views c.args.rows.now in
    let turn = c.in-Some.ensures.steps in
    let columns = next_column rows _ _ _ (way_view c.deref.result.now) (ap way_views turn.1)
    (ap way_view c.deref.ensures.value) in
    let next = next_at_end rows _ _ (leaf_view c.in-Some.leaf.now) _ _ (way_view c.in-Some.way.now.items)
    (ap leaf_views turn.0) (ap way_views turn.1) c.loop-leaf.invariant.ends in
    record {
      put = one_put c.args.count _ _ c.args.out.now.items c.loop-leaf.out.items c.write_leaf.new.out.items
          (views c.loop-leaf.chunks.items) _ _ _ _ _ (leaf_view c.in-Some.leaf.now)
          (column_along (way_view c.deref.result.now) rows) (view c.in_ok-write_leaf.field-0) (ap leaf_views turn.0) columns
          c.in_ok-write_leaf.ensures.written
          (said_pushed c.loop-leaf.chunks.items c.push.new.self.items c.in_ok-write_leaf.field-0 c.in_ok-push.ensures.items)
          c.in_ok-write_leaf.ensures.size c.loop-leaf.invariant.put;
      ends = next.2;
    }

pub returns-clause-written : goal.returns-clause-written
returns-clause-written c =
    let fs = iter_rest (zip_first c.loop-leaf.leaf-iterator) in
    let ws = iter_rest (zip_second c.loop-leaf.leaf-iterator) in
    let over : (length fs ≡ 0) ⊎ (length ws ≡ 0) = elim c.in-None.ensures.steps [ inl x ↦ inl x.1.0 | inr x ↦ inr x.1.0 ] in
    all_put c.args.count _ _ c.args.out.now.items c.loop-leaf.out.items (views c.loop-leaf.chunks.items) _ _
    (none_left (length c.loop-leaf.out.items) c.args.count fs ws (row_views c.args.rows.now) over) c.loop-leaf.invariant.put
