use Rattle.std.proofs.Common.{◌≡◌, length, ap, sym, ◌∙◌, arith}
use Rattle.std.proofs.lemmas.List.{length-map}
use Rattle.std.proofs.lemmas.Result.{err_from_is_err_and}
use Rattle.row_core.specs.Views.{row_views, value_view}
use Rattle.schema_tree.specs.Schema.{columns_of, tree_of}
use Rattle.schema_tree.specs.Tree.{fields_of}
use Rattle.shred.specs.Views.{shape_view, way_views}
use Rattle.parquet_schema.specs.Views.{leaf_views}
use Rattle.parquet_file.proofs.PutGroup.{group_of, group_put, group_refused, has_columns, leaves_at_ends}
use Rattle.parquet_file.proofs.writing.write_group.Goals as goal

pub write_chunks-requires : goal.write_chunks-requires
write_chunks-requires g c =
    let t = tree_of c.args.schema.now in
    let shape = shape_view c.in_ok-shape.shape in
    let through = ap way_views c.deref-2.ensures.value ∙ c.in_ok-ways.ensures in
    record {
      size = omega (arith, ap length c.requires.behind);
      levels = leaves_at_ends (fields_of (columns_of c.args.schema.now)) shape (leaf_views c.deref.result.now)
          (way_views c.deref-2.result.now) c.args.schema.now.within_limits.sound c.requires.supported
          c.in_ok-shape.ensures.shape (ap leaf_views c.deref.ensures.value ∙ c.in_ok-leaves.ensures) through;
      found = (has_columns t shape (row_views c.args.rows.now) (way_views c.deref-2.result.now)
          c.in_ok-shape.ensures.shape through c.requires.conform).found;
    }

pub returns-in_err-chunks-clause-written : goal.returns-in_err-chunks-clause-written
returns-in_err-chunks-clause-written g c =
    let t = tree_of c.args.schema.now in
    let shape = shape_view c.in_ok-shape.shape in
    let rows = row_views c.args.rows.now in
    let many : c.args.count ≡ length rows = c.requires.count ∙ sym (length-map c.args.rows.now value_view) in
    let through = ap way_views c.deref-2.ensures.value ∙ c.in_ok-ways.ensures in
    let has = has_columns t shape rows (way_views c.deref-2.result.now) c.in_ok-shape.ensures.shape through
    c.requires.conform in
    let of = group_of t rows shape (leaf_views c.deref.result.now) _ (length c.args.out.now.items) c.args.count
    c.in_ok-shape.ensures.shape (ap leaf_views c.deref.ensures.value ∙ c.in_ok-leaves.ensures) has.all
    (ap length c.requires.behind) many in
    let p = err_from_is_err_and c.from_residual-in_err-chunks.result c.from_residual-in_err-chunks.ensures.1 in
    rw (p.1, p.2) (group_refused t rows _ _ _ _ c.in_err-chunks.field-0.0 of c.in_err-chunks.ensures.written)

pub returns-clause-written : goal.returns-clause-written
returns-clause-written g c =
    let t = tree_of c.args.schema.now in
    let shape = shape_view c.in_ok-shape.shape in
    let rows = row_views c.args.rows.now in
    let many : c.args.count ≡ length rows = c.requires.count ∙ sym (length-map c.args.rows.now value_view) in
    let through = ap way_views c.deref-2.ensures.value ∙ c.in_ok-ways.ensures in
    let has = has_columns t shape rows (way_views c.deref-2.result.now) c.in_ok-shape.ensures.shape through
    c.requires.conform in
    let of = group_of t rows shape (leaf_views c.deref.result.now) _ (length c.args.out.now.items) c.args.count
    c.in_ok-shape.ensures.shape (ap leaf_views c.deref.ensures.value ∙ c.in_ok-leaves.ensures) has.all
    (ap length c.requires.behind) many in
    group_put t rows _ _ c.args.out.now.items c.write_chunks.new.out.items c.args.count _ _ _ of
    c.in_ok-group_tree.ensures (omega (arith, c.len.ensures, c.write_chunks.new.out.ok.0)) c.in_ok-chunks.ensures.written
