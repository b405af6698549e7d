use Rattle.std.proofs.Common.{◌≡◌, refl, arith, ◌∙◌, sym, ap, subst, IsTrue}
use Rattle.schema_tree.specs.Sameness.{has_fraction}
use Rattle.schema_tree.specs.Tree as tree
use Rattle.schema_tree.specs.Tree.{fields_of}
use Rattle.schema_tree.specs.View.{view, field_views}
use Rattle.schema_tree.proofs.StructView.{view-Struct, fields_fall}
use Rattle.schema_tree.proofs.SameFields.{same_structs, without_fraction, same_at, one_more_same, all_same}
use Rattle.schema_tree.proofs.sameness.+same.Goals as goal

pub same_fields-returns-then-not-same_field-clause-complete : goal.same_fields-returns-then-not-same_field-clause-complete
same_fields-returns-then-not-same_field-clause-complete g t c = λ without same.
    let x = c.index-fields-i.result in
    let y = c.index-others-i.result in
    let none = without_fraction c.args.fields.now c.loop-i.i x c.loop-i-test.true c.index-fields-i.is without in
    let at = same_at c.args.fields.now c.args.others.now c.loop-i.i x y c.loop-i-test.true c.index-fields-i.is c.index-others-i.is same in
    subst IsTrue c.if-not-same_field.true (c.same_field.ensures.complete none.0 none.1 at)

pub same_fields-loop-i-preserved : goal.same_fields-loop-i-preserved
same_fields-loop-i-preserved g t c = one_more_same c.args.fields.now c.args.others.now c.loop-i.i c.index-fields-i.result c.index-others-i.result c.loop-i-test.true c.if-fields-others.false c.index-fields-i.is c.index-others-i.is (c.if-not-same_field.ensures.sound refl) c.loop-i.invariant

pub same_fields-returns : goal.same_fields-returns
same_fields-returns g t c = record {
  sound = λ h. all_same c.args.fields.now c.args.others.now c.loop-i.i c.loop-i-test.false c.if-fields-others.false c.loop-i.invariant;
  complete = λ without same. refl;
}

pub same_node-same_fields-requires : goal.same_node-same_fields-requires
same_node-same_fields-requires g t c κs within =
    let falls = fields_fall c.in-Struct.fields c.deref.result.now c.args.node.now c.deref.ensures.value c.in-Struct.is in
    (omega arith, (within.0, within.1))

pub same_node-returns-in-Struct-other-clause-sound : goal.same_node-returns-in-Struct-other-clause-sound
same_node-returns-in-Struct-other-clause-sound g t c = λ h.
    let same : field_views c.in-Struct.fields.items ≡ field_views c.in-Struct-other.others.items = ap field_views (sym c.deref.ensures.value) ∙ (c.same_fields.ensures.sound h ∙ ap field_views c.deref-in-Struct-other.ensures.value) in
    rw (c.in-Struct.is, c.in-Struct-other.is) (view-Struct c.in-Struct.fields ∙ (ap (λ fs. tree.struct (fields_of fs)) same ∙ sym (view-Struct c.in-Struct-other.others)))

pub same_node-returns-in-Struct-other-clause-complete : goal.same_node-returns-in-Struct-other-clause-complete
same_node-returns-in-Struct-other-clause-complete g t c = λ without same.
    let seen : view c.args.node.now ≡ tree.struct (fields_of (field_views c.deref.result.now)) = ap view c.in-Struct.is ∙ (view-Struct c.in-Struct.fields ∙ ap (λ fs. tree.struct (fields_of (field_views fs))) (sym c.deref.ensures.value)) in
    let others : view c.args.other.now ≡ tree.struct (fields_of (field_views c.deref-in-Struct-other.result.now)) = ap view c.in-Struct-other.is ∙ (view-Struct c.in-Struct-other.others ∙ ap (λ fs. tree.struct (fields_of (field_views fs))) (sym c.deref-in-Struct-other.ensures.value)) in
    c.same_fields.ensures.complete (sym (ap has_fraction seen) ∙ without) (same_structs (field_views c.deref.result.now) (field_views c.deref-in-Struct-other.result.now) (sym seen ∙ (same ∙ others)))
