use Rattle.std.proofs.Common.{rules, ◌≡◌, ◌+◌, ◌&&◌, true, false, nat_lt, length, drop, ℤ, pos, negsuc, ◌<ℤ◌, ◌≤ℤ◌, sym, subst, ◌∙◌, arith, FitsSigned, w16, w32, to_z, of_z}
use Rattle.std.proofs.lemmas.Int.{ints, to_z-of_z}
use Rattle.std.specs.Int.Signed.{lt_z, le_z}
use Rattle.thrift_core.specs.Form.{form_view, field_form_views, form_at}
use Rattle.thrift_values.specs.Tree as tree
use Rattle.thrift_values.specs.Tree.{trees_of, entries_of, fields_of}
use Rattle.thrift_values.specs.View.{view, views, entry_view, entry_views, field_view, field_views}
use Rattle.thrift_core.specs.Writable.{for_some, is_writable, entries_are_writable, fields_are_writable}
use Rattle.thrift_values.specs.declared.value.Field.{out-Field}
use Rattle.thrift_values.specs.declared.value.TValue.{the_lemmas}
use Rattle.thrift_core.proofs.Tested.{between_16, falls, first_apart, first_decides, list_tested, map_tested, not_all, others_decide, stands, unfit, wider}
use Rattle.thrift_values.proofs.Callers.{view-List, view-Map}
use Rattle.thrift_core.proofs.writable.+writable.Goals.{are_fields-then-id-last-via-then-id-last, are_fields-then-id-last-via-else-id-last+then-not-is_field}
use Rattle.thrift_core.proofs.writable.+writable.Goals as goal

pub are_entries-returns-then-not-is_entry : goal.are_entries-returns-then-not-is_entry
are_entries-returns-then-not-is_entry g t c =
    let k = form_view c.args.key.now in
    let v = form_view c.args.value.now in
    let es = c.args.entries.now in
    let i = c.loop-entry.entry-index in
    let e = c.entry-item.result in
    let left = entries_are_writable k v (entries_of (entry_views (drop i es))) in
    let rest = entries_are_writable k v (entries_of (entry_views (drop (i + 1) es))) in
    let all = entries_are_writable k v (entries_of (entry_views es)) in
    let one = is_writable k (entry_view e).0 && is_writable v (entry_view e).1 in
    let here : left ≡ (one && rest) = first_apart (λ vs. entries_are_writable k v (entries_of (entry_views vs))) es i e c.loop-entry-test.true c.entry-item.is in
    let never : false ≡ one = sym c.if-not-is_entry.true ∙ c.is_entry.ensures in
    not_all (nat_lt (length es) 2147483648) all (first_decides one rest left all here never c.loop-entry.invariant)

pub are_entries-loop-entry-preserved : goal.are_entries-loop-entry-preserved
are_entries-loop-entry-preserved g t c =
    let k = form_view c.args.key.now in
    let v = form_view c.args.value.now in
    let es = c.args.entries.now in
    let i = c.loop-entry.entry-index in
    let e = c.entry-item.result in
    let left = entries_are_writable k v (entries_of (entry_views (drop i es))) in
    let rest = entries_are_writable k v (entries_of (entry_views (drop (i + 1) es))) in
    let all = entries_are_writable k v (entries_of (entry_views es)) in
    let one = is_writable k (entry_view e).0 && is_writable v (entry_view e).1 in
    let here : left ≡ (one && rest) = first_apart (λ vs. entries_are_writable k v (entries_of (entry_views vs))) es i e c.loop-entry-test.true c.entry-item.is in
    let yes : true ≡ one = sym c.if-not-is_entry.false ∙ c.is_entry.ensures in
    others_decide one rest left all here yes c.loop-entry.invariant

pub are_fields-returns-then-id-last : goal.are_fields-returns-then-id-last
are_fields-returns-then-id-last g t c =
    let forms = field_form_views c.args.forms.now in
    let fs = c.args.fields.now in
    let i = c.loop-field.field-index in
    let f = c.field-item.result in
    let id = (field_view f).0 in
    let last = to_z w32 c.loop-field.last-bits in
    let same : c.from-id.result ≡ id = search (rules, the_lemmas) in
    let left = fields_are_writable forms last (fields_of (field_views (drop i fs))) in
    let rest = fields_are_writable forms id (fields_of (field_views (drop (i + 1) fs))) in
    let all = fields_are_writable forms (negsuc 32768) (fields_of (field_views fs)) in
    let value = for_some (λ form. is_writable form (field_view f).1) (form_at id forms) in
    let one = lt_z last id && (le_z id (pos 32767) && value) in
    let here : left ≡ (one && rest) = first_apart (λ vs. fields_are_writable forms last (fields_of (field_views vs))) fs i f c.loop-field-test.true c.field-item.is in
    elim c.then-id-last.branch [
      | are_fields-then-id-last-via-then-id-last w ↦
          let below : id ≤ℤ last = omega (arith, ints, w.if-id-last.true, same) in
          first_decides one rest left all here (falls last id (le_z id (pos 32767) && value) below) c.loop-field.invariant
      | are_fields-then-id-last-via-else-id-last+then-not-is_field w ↦
          let never : false ≡ value = sym w.if-not-is_field.true ∙ w.is_field.ensures in
          first_decides one rest left all here (unfit (lt_z last id) (le_z id (pos 32767)) value never) c.loop-field.invariant
    ]

pub are_fields-loop-field-preserved : goal.are_fields-loop-field-preserved
are_fields-loop-field-preserved g t c =
    let forms = field_form_views c.args.forms.now in
    let fs = c.args.fields.now in
    let i = c.loop-field.field-index in
    let f = c.field-item.result in
    let id = (field_view f).0 in
    let last = to_z w32 c.loop-field.last-bits in
    let same : c.from-id.result ≡ id = search (rules, the_lemmas) in
    let raw : FitsSigned w16 (out-Field _ f).id = search rules in
    let seen : (out-Field _ f).id ≡ id = search (rules, the_lemmas) in
    let fits : FitsSigned w16 id = subst (λ (z : ℤ). FitsSigned w16 z) seen raw in
    let kept : to_z w32 (of_z w32 c.from-id.result) ≡ id = rw same (to_z-of_z w32 id (wider id fits)) in
    let rises : last <ℤ id = omega (arith, ints, c.if-id-last.false, same) in
    let left = fields_are_writable forms last (fields_of (field_views (drop i fs))) in
    let rest = fields_are_writable forms id (fields_of (field_views (drop (i + 1) fs))) in
    let all = fields_are_writable forms (negsuc 32768) (fields_of (field_views fs)) in
    let value = for_some (λ form. is_writable form (field_view f).1) (form_at id forms) in
    let one = lt_z last id && (le_z id (pos 32767) && value) in
    let here : left ≡ (one && rest) = first_apart (λ vs. fields_are_writable forms last (fields_of (field_views vs))) fs i f c.loop-field-test.true c.field-item.is in
    let yes : true ≡ value = sym c.if-not-is_field.false ∙ c.is_field.ensures in
    rw kept (others_decide one rest left all here (stands last id value rises (between_16 id fits).1 yes) c.loop-field.invariant)

pub is_value-returns-in-Some : goal.is_value-returns-in-Some
is_value-returns-in-Some g t c =
    let seen : view c.args.value.now ≡ tree.list (trees_of (views c.in-List.members.items)) = rw c.in-List.is (view-List c.in-List.members) in
    list_tested (form_view c.args.form.now) (form_view c.in-Some.member.now) (view c.args.value.now) c.deref.result.now c.in-List.members.items c.are_members.result seen c.in-Some.ensures c.deref.ensures.value c.are_members.ensures

pub is_value-returns-in-Some-entry : goal.is_value-returns-in-Some-entry
is_value-returns-in-Some-entry g t c =
    let seen : view c.args.value.now ≡ tree.map (entries_of (entry_views c.in-Map.entries.items)) = rw c.in-Map.is (view-Map c.in-Map.entries) in
    map_tested (form_view c.args.form.now) (form_view c.in-Some-entry.key.now) (form_view c.in-Some-entry.value.now) (view c.args.value.now) c.deref-in-Some-entry.result.now c.in-Map.entries.items c.are_entries.result seen c.in-Some-entry.ensures c.deref-in-Some-entry.ensures.value c.are_entries.ensures
