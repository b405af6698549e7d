use Rattle.std.proofs.Common.{◌≡◌, ◌++◌, ◌∷◌, [], length, inl, inr, ◌⊎◌, ap, sym, ◌∙◌, arith}
use Rattle.std.specs.Iterator.Adapters.{zip_first, zip_second}
use Rattle.std.specs.Slice.Iter.{iter_rest}
use Rattle.schema_tree.specs.Tree.{fields_of as tree_fields}
use Rattle.schema_tree.specs.View.{view as type_view, field_view as column_view, field_views as column_views}
use Rattle.shred.specs.Shape.{fields_of as shape_fields}
use Rattle.shred.specs.Views.{shape_view, field_view as shape_field_view, field_views as shape_field_views}
use Rattle.schema_tree.specs.Tree as tree
use Rattle.shred.specs.Shape as shapes
use Rattle.parquet_schema.proofs.leaves.+leaves.Goals.{put_field-then-shape+in_ok-push-2, put_field-else-shape}
use Rattle.parquet_schema.specs.Leaves.{flag_of}
use Rattle.parquet_schema.specs.declared.leaves.Way.{Way}
use Rattle.parquet_schema.specs.Views.{leaf_views, way_names}
use Rattle.parquet_schema.proofs.PutLeaves.{first_leaves, no_leaves, one_put, all_put, field_put, flag_put, no_flag, name_put, first_falls, others_fall, shape-Struct, type-Struct}
use Rattle.parquet_schema.proofs.leaves.+leaves.Goals as goal

pub put_fields-put_field-requires : goal.put_fields-put_field-requires
put_fields-put_field-requires g t c κs within =
    let h = first_falls _ _ c.args.fields.now c.in-Some.field.now c.in-Some.ensures.steps.0 c.loop-field.invariant.falls in
    (omega arith, within)

pub put_fields-loop-field-preserved : goal.put_fields-loop-field-preserved
put_fields-loop-field-preserved g t c =
    let turn = c.in-Some.ensures.steps in
    record {
      put = one_put _ _ _ _ _ _ _ _ _ _ c.loop-field.invariant.names c.loop-field.invariant.flags (first_leaves _ _ _ _ c.in-Some.field.now c.in-Some.shape.now turn.0 turn.1) c.in_ok-put_field.ensures.put c.loop-field.invariant.put;
      names = c.in_ok-put_field.ensures.way.0 ∙ c.loop-field.invariant.names;
      falls = others_fall _ _ c.args.fields.now c.in-Some.field.now turn.0 c.loop-field.invariant.falls;
      flags = c.in_ok-put_field.ensures.way.1 ∙ c.loop-field.invariant.flags;
    }

pub put_fields-returns-clause-put : goal.put_fields-returns-clause-put
put_fields-returns-clause-put g t c =
    let fs = iter_rest (zip_first c.loop-field.field-iterator) in
    let ss = iter_rest (zip_second c.loop-field.field-iterator) in
    let over : (length fs ≡ 0) ⊎ (length ss ≡ 0) = elim c.in-None.ensures.steps [ inl x ↦ inl x.1.0 | inr x ↦ inr x.1.0 ] in
    all_put _ _ _ _ _ (no_leaves fs ss over) c.loop-field.invariant.put

pub put_field-returns-then-shape-2-clause-put : goal.put_field-returns-then-shape-2-clause-put
put_field-returns-then-shape-2-clause-put g t c =
    let f = c.args.field.now in
    let s = c.args.shape.now in
    let way = c.args.way.now in
    let pushed = name_put f way.names.items c.push.new.self.items c.as_str.result c.in_ok-push.ensures.items c.as_str.ensures.value in
    let names : way_names c.if-shape.way' ≡ way_names way ++ (column_view f).name ∷ [] = elim c.if-shape.branch [ put_field-then-shape+in_ok-push-2 w ↦ ap way_names w.way'-is ∙ pushed | put_field-else-shape w ↦ ap way_names w.way'-is ∙ pushed ] in
    let flags : c.if-shape.way'.nullable.items ≡ way.nullable.items ++ flag_of (shape_field_view s).optional (column_view f).nullable = elim c.if-shape.branch [ put_field-then-shape+in_ok-push-2 w ↦ flag_put f s way.nullable.items _ w.if-shape.true (ap (λ (x : Way). x.nullable.items) w.way'-is ∙ w.in_ok-push-2.ensures.items) | put_field-else-shape w ↦ no_flag f s way.nullable.items _ w.if-shape.false (ap (λ (x : Way). x.nullable.items) w.way'-is) ] in
    field_put f s (way_names way) _ way.nullable.items _ (leaf_views c.args.leaves.now.items) _ names flags c.in_ok-put_leaves.ensures.put

pub put_field-returns-else-shape-2-clause-put : goal.put_field-returns-else-shape-2-clause-put
put_field-returns-else-shape-2-clause-put g t c =
    let f = c.args.field.now in
    let s = c.args.shape.now in
    let way = c.args.way.now in
    let pushed = name_put f way.names.items c.push.new.self.items c.as_str.result c.in_ok-push.ensures.items c.as_str.ensures.value in
    let names : way_names c.if-shape.way' ≡ way_names way ++ (column_view f).name ∷ [] = elim c.if-shape.branch [ put_field-then-shape+in_ok-push-2 w ↦ ap way_names w.way'-is ∙ pushed | put_field-else-shape w ↦ ap way_names w.way'-is ∙ pushed ] in
    let flags : c.if-shape.way'.nullable.items ≡ way.nullable.items ++ flag_of (shape_field_view s).optional (column_view f).nullable = elim c.if-shape.branch [ put_field-then-shape+in_ok-push-2 w ↦ flag_put f s way.nullable.items _ w.if-shape.true (ap (λ (x : Way). x.nullable.items) w.way'-is ∙ w.in_ok-push-2.ensures.items) | put_field-else-shape w ↦ no_flag f s way.nullable.items _ w.if-shape.false (ap (λ (x : Way). x.nullable.items) w.way'-is) ] in
    field_put f s (way_names way) _ way.nullable.items _ (leaf_views c.args.leaves.now.items) _ names flags c.in_ok-put_leaves.ensures.put

pub put_leaves-returns-in-Struct-Struct-clause-put : goal.put_leaves-returns-in-Struct-Struct-clause-put
put_leaves-returns-in-Struct-Struct-clause-put g t c =
    let types : type_view c.args.node.now ≡ _ = ap type_view c.in-Struct-Struct.is-0 ∙ (type-Struct c.in-Struct-Struct.fields ∙ ap (λ fs. tree.struct (tree_fields (column_views fs))) (sym c.deref.ensures.value)) in
    let seen : shape_view c.args.shape.now ≡ _ = ap shape_view c.in-Struct-Struct.is-1 ∙ (shape-Struct c.in-Struct-Struct.shapes ∙ ap (λ fs. shapes.struct (shape_fields (shape_field_views fs))) (sym c.deref-in-Struct-Struct.ensures.value)) in
    rw (types, seen) c.put_fields.ensures.put
