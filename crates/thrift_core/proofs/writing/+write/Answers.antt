use Rattle.std.proofs.Common.{rules, ◌≡◌, ◌++◌, length, pos, refl, ap, ◌∙◌, w16, to_z, of_z}
use Rattle.std.proofs.lemmas.List.{append_assoc}
use Rattle.thrift_core.specs.Form.{form_view, field_form_views, number_of}
use Rattle.thrift_values.specs.Tree as tree
use Rattle.thrift_values.specs.View.{view, views, entry_view, entry_views, field_view, field_views}
use Rattle.thrift_core.specs.Writing.{map_header_bytes, written, written_entries, written_field, written_fields}
use Rattle.thrift_values.specs.declared.value.Field.{out-Field}
use Rattle.thrift_values.specs.declared.value.TValue.{the_lemmas}
use Rattle.thrift_values.proofs.Callers.{view-List, view-Map, key_seen, value_seen}
use Rattle.thrift_core.proofs.Written.{list_written, map_written, part_written}
use Rattle.thrift_core.proofs.writing.+write.Goals as goal

pub write_value-returns-in_ok-write_members-in-List : goal.write_value-returns-in_ok-write_members-in-List
write_value-returns-in_ok-write_members-in-List g t c =
    let seen : view c.args.value.now ≡ tree.list (tree.trees_of (views c.in-List.members.items)) = rw c.in-List.is (view-List c.in-List.members) in
    list_written (form_view c.args.form.now) (form_view c.in-Some.member.now) (view c.args.value.now) c.deref-in-Some.result.now c.in-List.members.items c.args.out.now.items c.write_members.new.out.items seen c.in-Some.ensures c.deref-in-Some.ensures.value c.in_ok-write_members-in-List.ensures

pub write_value-returns-in_ok-write_entries-in-Map : goal.write_value-returns-in_ok-write_entries-in-Map
write_value-returns-in_ok-write_entries-in-Map g t c =
    let seen : view c.args.value.now ≡ tree.map (tree.entries_of (entry_views c.in-Map.entries.items)) = rw c.in-Map.is (view-Map c.in-Map.entries) in
    map_written (form_view c.args.form.now) (form_view c.in-Some-entry.key.now) (form_view c.in-Some-entry.value.now) (view c.args.value.now) c.deref-in-Some-entry.result.now c.in-Map.entries.items c.args.out.now.items c.write_entries.new.out.items seen c.in-Some-entry.ensures c.deref-in-Some-entry.ensures.value c.in_ok-write_entries-in-Map.ensures

pub write_entries-loop-entry-preserved : goal.write_entries-loop-entry-preserved
write_entries-loop-entry-preserved g t c =
    let k = form_view c.args.key.now in
    let v = form_view c.args.value.now in
    let e = c.entry-item.result in
    let key = written k (entry_view e).0 in
    let value = written v (entry_view e).1 in
    let old = c.loop-entry.out.items in
    let one : c.write_value.new.out.items ≡ old ++ key = c.in_ok-write_value.ensures ∙ ap (λ t. old ++ written k t) (key_seen e) in
    let both : c.write_value-in-loop-entry.new.out.items ≡ old ++ (key ++ value) = c.in_ok-write_value-2.ensures ∙ (ap (λ t. c.write_value.new.out.items ++ written v t) (value_seen e) ∙ (ap (λ b. b ++ value) one ∙ append_assoc old key value)) in
    let total = c.args.out.now.items ++ (map_header_bytes (number_of k) (number_of v) (length c.args.entries.now) ++ written_entries k v (tree.entries_of (entry_views c.args.entries.now))) in
    part_written (λ es. written_entries k v (tree.entries_of (entry_views es))) (λ es. written_entries k v (tree.entries_of (entry_views es))) c.args.entries.now c.loop-entry.entry-index e (key ++ value) old c.write_value-in-loop-entry.new.out.items total c.loop-entry-test.true c.entry-item.is refl both c.loop-entry.invariant

pub write_fields-loop-field-preserved : goal.write_fields-loop-field-preserved
write_fields-loop-field-preserved g t c =
    let forms = field_form_views c.args.forms.now in
    let f = c.field-item.result in
    let part = written_field forms (to_z w16 c.loop-field.last-bits) (field_view f).0 (field_view f).1 in
    let total = c.args.out.now.items ++ written_fields forms (pos 0) (tree.fields_of (field_views c.args.fields.now)) in
    let fits : to_z w16 (of_z w16 (out-Field _ f).id) ≡ (field_view f).0 = search (rules, the_lemmas) in
    rw fits (part_written (λ fs. written_fields forms (to_z w16 c.loop-field.last-bits) (tree.fields_of (field_views fs))) (λ fs. written_fields forms (field_view f).0 (tree.fields_of (field_views fs))) c.args.fields.now c.loop-field.field-index f part c.loop-field.out.items c.write_field.new.out.items total c.loop-field-test.true c.field-item.is refl c.in_ok-write_field.ensures c.loop-field.invariant)
