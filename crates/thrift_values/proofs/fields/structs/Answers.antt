use Rattle.std.proofs.Common.{rules, ◌≡◌, ℤ, Some, ap, sym, refl, ◌∙◌, w16, to_z, of_z}
use Rattle.std.proofs.lemmas.Int.{to_z-of_z}
use Rattle.thrift_values.specs.Tree.{trees_of, list, value_of_field}
use Rattle.thrift_values.specs.View.{view, views}
use Rattle.thrift_values.specs.declared.value.TValue.{the_lemmas}
use Rattle.thrift_values.proofs.Views.{view-List}
use Rattle.thrift_values.specs.Fields.{as_struct}
use Rattle.thrift_values.proofs.FieldKinds.{all_structs, list_in_field}
use Rattle.thrift_values.proofs.fields.structs.Goals as goal
use Rattle.thrift_values.proofs.fields.structs.Goals.{in_default-via-in-Some-List+else-are_structs, in_default-via-in-Some+in_default, in_default-via-in_default}

pub returns-in-Some-List : goal.returns-in-Some-List
returns-in-Some-List g c =
    let seen = all_structs c.deref.result.now c.are_structs.result c.are_structs.ensures in
    let id : to_z w16 (of_z w16 c.args.id) ≡ c.args.id = to_z-of_z w16 c.args.id c.ranges.id in
    let there : value_of_field c.args.id (view c.args.tree.now) ≡ Some (list (trees_of (views c.in-Some-List.members.items))) = ap (λ (z : ℤ). value_of_field z (view c.args.tree.now)) (sym id) ∙ sym c.field.ensures ∙ rw (c.in-Some-List.is, c.in-Some-List.field-0-is, view-List) refl in
    let same : c.deref.result.now ≡ c.in-Some-List.members.items = search (rules, the_lemmas) in
    let other : c.deref-in-Some-List.result.now ≡ c.in-Some-List.members.items = search (rules, the_lemmas) in
    list_in_field as_struct c.args.id (view c.args.tree.now) _ there ∙ rw (other, ← same, seen, c.if-are_structs.true) refl

pub returns-in_default : goal.returns-in_default
returns-in_default g c =
    let id : to_z w16 (of_z w16 c.args.id) ≡ c.args.id = to_z-of_z w16 c.args.id c.ranges.id in
    elim c.in_default.branch [
      | in_default-via-in-Some-List+else-are_structs w ↦
          let seen = all_structs w.deref.result.now w.are_structs.result w.are_structs.ensures in
          let there : value_of_field c.args.id (view c.args.tree.now) ≡ Some (list (trees_of (views w.in-Some-List.members.items))) = ap (λ (z : ℤ). value_of_field z (view c.args.tree.now)) (sym id) ∙ sym c.field.ensures ∙ rw (w.in-Some-List.is, w.in-Some-List.field-0-is, view-List) refl in
          let same : w.deref.result.now ≡ w.in-Some-List.members.items = search (rules, the_lemmas) in
          rw id (list_in_field as_struct c.args.id (view c.args.tree.now) _ there ∙ rw (← same, seen, w.if-are_structs.false) refl)
      | in_default-via-in-Some+in_default w ↦ search (rules, the_lemmas)
      | in_default-via-in_default w ↦ search (rules, the_lemmas)
    ]
