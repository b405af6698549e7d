use Rattle.std.proofs.Common.{rules, ◌≡◌, ◌++◌, ◌∷◌, [], Some, None, ℤ, ap, sym, refl, ◌∙◌, w16, to_z, of_z}
use Rattle.std.proofs.lemmas.Int.{to_z-of_z}
use Rattle.std.proofs.lemmas.List.{map_push}
use Rattle.thrift_values.specs.Fields.{as_text, all_as}
use Rattle.thrift_values.specs.Tree.{trees_of, list, value_of_field}
use Rattle.thrift_values.specs.View.{view, views, texts_view}
use Rattle.thrift_values.specs.declared.value.TValue.{the_lemmas}
use Rattle.thrift_values.proofs.FieldKinds.{text_goes_on, text_fails, texts_done, list_in_field}
use Rattle.thrift_values.proofs.Views.{view-List}
use Rattle.thrift_values.proofs.fields.texts.Goals as goal

pub returns-in_default-as_text : goal.returns-in_default-as_text
returns-in_default-as_text g c =
    let items = c.deref-member-items.result.now in
    let id : to_z w16 (of_z w16 c.args.id) ≡ c.args.id = to_z-of_z w16 c.args.id c.ranges.id in
    let there : value_of_field c.args.id (view c.args.tree.now) ≡ Some (list (trees_of (views c.in-Some-List.members.items))) = ap (λ (z : ℤ). value_of_field z (view c.args.tree.now)) (sym id) ∙ sym c.field.ensures ∙ rw (c.in-Some-List.is, c.in-Some-List.field-0-is, view-List) refl in
    let same : items ≡ c.in-Some-List.members.items = search (rules, the_lemmas) in
    let none : all_as as_text (trees_of (views items)) ≡ None = text_fails (texts_view c.loop-member.texts.items) items c.loop-member.member-index c.member-item.result _ c.loop-member-test.true c.member-item.is c.in_default-as_text.ensures c.loop-member.invariant in
    rw (c.into-in_default-as_text.ensures, id) (list_in_field as_text c.args.id (view c.args.tree.now) _ there ∙ rw (← same, none) refl)

pub loop-member-preserved : goal.loop-member-preserved
loop-member-preserved g c =
    let items = c.deref-member-items.result.now in
    let text : Some c.in-Some.text.now ≡ as_text (view c.member-item.result) = c.in-Some.ensures in
    let put : texts_view c.push.new.self.items ≡ texts_view c.loop-member.texts.items ++ c.in-Some.text.now ∷ [] = rw (c.in_ok-push.ensures.items, ← c.in_ok-from_slice.ensures.items) (map_push (λ t. t.items) c.loop-member.texts.items c.in_ok-from_slice.field-0) in
    rw put (text_goes_on (texts_view c.loop-member.texts.items) items c.loop-member.member-index c.member-item.result c.in-Some.text.now (all_as as_text (trees_of (views items))) c.loop-member-test.true c.member-item.is text c.loop-member.invariant)

pub returns : goal.returns
returns g c =
    let items = c.deref-member-items.result.now in
    let id : to_z w16 (of_z w16 c.args.id) ≡ c.args.id = to_z-of_z w16 c.args.id c.ranges.id in
    let there : value_of_field c.args.id (view c.args.tree.now) ≡ Some (list (trees_of (views c.in-Some-List.members.items))) = ap (λ (z : ℤ). value_of_field z (view c.args.tree.now)) (sym id) ∙ sym c.field.ensures ∙ rw (c.in-Some-List.is, c.in-Some-List.field-0-is, view-List) refl in
    let same : items ≡ c.in-Some-List.members.items = search (rules, the_lemmas) in
    let all : all_as as_text (trees_of (views items)) ≡ Some (texts_view c.loop-member.texts.items) = texts_done (texts_view c.loop-member.texts.items) items c.loop-member.member-index _ c.loop-member-test.false c.loop-member.invariant in
    list_in_field as_text c.args.id (view c.args.tree.now) _ there ∙ rw (← same, all) refl
