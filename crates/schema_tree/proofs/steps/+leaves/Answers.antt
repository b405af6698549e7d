use Rattle.std.proofs.Common.{◌≡◌, ◌+◌, ◌++◌, ◌∷◌, [], map, OnOk, Bor, List, ℕ, take, ap, sym, ◌∙◌, subst, arith}
use Rattle.std.proofs.lemmas.List.{map_more, map_push}
use Rattle.schema_tree.specs.Leaves.{leaves_of, leaves_of_fields}
use Rattle.schema_tree.specs.Internal.{leaf_under}
use Rattle.schema_tree.specs.Schema.{leaf_view}
use Rattle.schema_tree.specs.Tree.{fields_of}
use Rattle.schema_tree.specs.View.{view, field_view, field_views}
use Rattle.schema_tree.proofs.StructView.{view-Struct, name_seen, type_seen, nullable_seen}
use Rattle.schema_tree.proofs.FieldLeaves.{counted_null, one_put, under_field, level_within, falls_within}
use Rattle.schema_tree.proofs.steps.+leaves.Goals as goal

pub put_field-returns-clause-leaves : goal.put_field-returns-clause-leaves
put_field-returns-clause-leaves g t c =
    let now = λ (s : Bor (List ℕ)). s.now in
    let f = c.args.field.now in
    let column = field_view f in
    let above = map now c.args.above.now.items in
    let longer : map now c.push.new.self.items ≡ above ++ column.name ∷ [] = ap (map now) c.in_ok-push.ensures.items ∙ (map_push now c.args.above.now.items c.as_str.result ∙ ap (λ s. above ++ s ∷ []) (c.as_str.ensures.value ∙ name_seen f)) in
    let counts = c.from.ensures ∙ counted_null _ column.nullable (nullable_seen f) in
    let under = under_field above (map now c.push.new.self.items) c.args.nullables c.from.result column longer counts (leaves_of column.data_type) in
    c.in_ok-put_type.ensures.leaves ∙ ap (λ ls. map leaf_view c.args.leaves.now.items ++ ls) (ap (λ n. map (leaf_under (map now c.push.new.self.items) (c.args.nullables + c.from.result)) (leaves_of n)) (type_seen f) ∙ under)

pub put_leaves-put_field-requires : goal.put_leaves-put_field-requires
put_leaves-put_field-requires g t c κs within =
    let level = level_within c.args.fields.now c.loop-field.field-index c.field-item.result c.loop-field-test.true c.field-item.is in
    let size = falls_within c.args.fields.now c.loop-field.field-index c.field-item.result c.loop-field-test.true c.field-item.is in
    (omega arith, (within.0, (within.1, omega arith)))

pub put_leaves-loop-field-preserved : goal.put_leaves-loop-field-preserved
put_leaves-loop-field-preserved g t c = one_put _ _ _ (field_view c.field-item.result) c.loop-field.invariant (map_more field_view c.args.fields.now c.loop-field.field-index c.field-item.result c.loop-field-test.true ∙ ap (λ f. field_views (take c.loop-field.field-index c.args.fields.now) ++ field_view f ∷ []) (sym c.field-item.is)) c.in_ok-put_field.ensures.leaves c.in_ok-put_field.ensures.above

pub put_type-returns-in-Struct-clause-leaves : goal.put_type-returns-in-Struct-clause-leaves
put_type-returns-in-Struct-clause-leaves g t c =
    let seen : leaves_of_fields (fields_of (field_views c.deref.result.now)) ≡ leaves_of (view c.args.node.now) = ap (λ fs. leaves_of_fields (fields_of (field_views fs))) c.deref.ensures.value ∙ (ap leaves_of (sym (view-Struct c.in-Struct.fields)) ∙ ap (λ n. leaves_of (view n)) (sym c.in-Struct.is)) in
    subst (λ ls. OnOk c.put_leaves.result (map leaf_view c.put_leaves.new.leaves.items ≡ map leaf_view c.args.leaves.now.items ++ map (leaf_under (map (λ s. s.now) c.args.above.now.items) c.args.nullables) ls)) seen c.put_leaves.ensures.leaves
