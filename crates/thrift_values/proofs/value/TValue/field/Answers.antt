use Rattle.std.proofs.Common.{◌≡◌, ◌∷◌, ◌+◌, w16, to_z, of_z, ap, sym, ◌∙◌, arith, drop, rules, option_map, Some, refl, ℤ}
use Rattle.std.proofs.lemmas.Bool.{false≢true}
use Rattle.std.proofs.lemmas.List.{drop_more}
use Rattle.std.proofs.lemmas.Int.{to_z-of_z}
use Rattle.thrift_values.specs.Tree.{last_of, fields_of, value_of_field}
use Rattle.thrift_values.specs.View.{view, field_view, field_views}
use Rattle.thrift_values.specs.declared.value.TValue.{the_lemmas}
use Rattle.thrift_values.proofs.Views.{view-Struct}
use Rattle.thrift_values.proofs.FieldsLast.{found_here, not_here, all_seen}
use Rattle.thrift_values.proofs.value.TValue.field.Goals as goal
use Rattle.thrift_values.proofs.value.TValue.field.Goals.{then-has_id, else-has_id}

pub loop-field-preserved : goal.loop-field-preserved
loop-field-preserved g c =
    let fs = c.deref-field-items.result.now in
    let i = c.loop-field.field-index in
    let f = c.field-item.result in
    let id = to_z w16 (of_z w16 c.args.id) in
    let total = last_of id (fields_of (field_views fs)) in
    let here : drop i fs ≡ f ∷ drop (i + 1) fs = drop_more fs i f (omega arith) ∙ ap (λ y. y ∷ drop (i + 1) fs) (sym c.field-item.is) in
    let before = option_map (λ v. view v.now) c.loop-field.found in
    elim c.if-has_id.branch [
      | then-has_id w ↦
          let same : (field_view f).0 ≡ id = c.has_id.ensures.0 (search rules) in
          let seen : option_map (λ v. view v.now) c.if-has_id.found ≡ Some (field_view f).1 = rw w.found-is (search (rules, the_lemmas)) in
          rw seen (found_here id fs i f before total here same c.loop-field.invariant)
      | else-has_id w ↦
          let other : (field_view f).0 ≡ id → ⊥ = λ e. absurd (false≢true (w.if-has_id.ensures.1 e)) in
          rw w.found-is (not_here id fs i f before total here other c.loop-field.invariant)
    ]

pub returns : goal.returns
returns g c =
    let fs = c.deref-field-items.result.now in
    let i = c.loop-field.field-index in
    let id : to_z w16 (of_z w16 c.args.id) ≡ c.args.id = to_z-of_z w16 c.args.id c.ranges.id in
    let done = all_seen (to_z w16 (of_z w16 c.args.id)) fs i (option_map (λ v. view v.now) c.loop-field.found) (last_of (to_z w16 (of_z w16 c.args.id)) (fields_of (field_views fs))) c.loop-field-test.false c.loop-field.invariant in
    let same = ap (λ (z : ℤ). last_of z (fields_of (field_views fs))) id in
    let struct_is : value_of_field c.args.id (view c.args.self.now) ≡ last_of c.args.id (fields_of (field_views fs)) = rw (c.in-Struct.is, view-Struct, c.deref-field-items.ensures.value) refl in
    done ∙ same ∙ sym struct_is
