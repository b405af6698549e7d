use Rattle.std.proofs.Common.{◌≡◌, true, arith, ◌+◌, ◌++◌, ◌∷◌, [], Ok, drop, ap, sym, refl, ◌∙◌, subst}
use Rattle.std.specs.Prelude.{unwrap_or}
use Rattle.std.proofs.lemmas.List.{map_push}
use Rattle.std.proofs.lemmas.Result.{err_from_is_err_and}
use Rattle.serde_json.specs.Data.{null, object}
use Rattle.serde_json.specs.Find.{get}
use Rattle.json_text.specs.View.{view as json_view, named_view, members_view}
use Rattle.outcomes.specs.Outcome.{Gives, IsSaid}
use Rattle.schema_tree.specs.Limits.{is_sound}
use Rattle.schema_tree.specs.Tree.{fields_of}
use Rattle.schema_tree.specs.View.{field_view, field_views}
use Rattle.row_core.specs.Fault.{says}
use Rattle.row_core.specs.InOrder.{member_names}
use Rattle.row_core.specs.Reading.{value_of, field_values}
use Rattle.row_core.specs.Rows.{Row}
use Rattle.row_core.specs.Views.{value_view, row_views}
use Rattle.row_core.proofs.Fields.{struct_seen, name_seen, next_seen, sound_at, falls_within}
use Rattle.row_core.proofs.InOrder.{as_many, found_at, all_known, object_seen}
use Rattle.row_core.proofs.KnownNames.{object_is}
use Rattle.row_core.proofs.ReadFields.{told_value, first_fails, goes_on, struct_is, struct_fails}
use Rattle.row_core.proofs.Values.{view-Struct}
use Rattle.row_core.proofs.reading.+read.Goals as goal

pub type_value-returns-in-Struct : goal.type_value-returns-in-Struct
type_value-returns-in-Struct g t c =
    subst (λ n. Gives says value_view c.struct_value.result (value_of n (json_view c.args.value.now))) (struct_seen c.in-Struct.fields c.deref.result.now c.args.node.now c.deref.ensures.value c.in-Struct.is) c.struct_value.ensures

pub named_struct-returns-in-None : goal.named_struct-returns-in-None
named_struct-returns-in-None g t c =
    let d = object (named_view c.args.members.now.entries) in
    let fs = fields_of (field_views c.args.fields.now) in
    let values = c.in_ok-values.values in
    struct_is fs d (named_view c.args.members.now.entries) (row_views values.items) refl c.in_ok-values.ensures (sym c.in-None.ensures) ∙ ap (λ (v : Row). Ok v) (sym (view-Struct values))

pub field_values-returns-in_err-value : goal.field_values-returns-in_err-value
field_values-returns-in_err-value g t c =
    let fs = c.args.fields.now in
    let i = c.loop-field.field-index in
    let f = c.field-item.result in
    let d = object (named_view c.args.members.now.entries) in
    let p = err_from_is_err_and c.from_residual-in_err-value.result c.from_residual-in_err-value.ensures.1 in
    let found = ap (λ o. unwrap_or o null) (c.member_of.ensures ∙ ap (λ k. get k d) (c.as_str.ensures.value ∙ name_seen f)) in
    let said = subst (λ v. IsSaid (says c.in_err-value.field-0.0) (told_value (field_view f) v)) found c.in_err-value.ensures in
    rw (p.1, p.2) (first_fails (row_views c.loop-field.values.items) (field_views (drop i fs)) (field_views (drop (i + 1) fs)) (field_view f) d (field_values (fields_of (field_views fs)) d) (says c.in_err-value.field-0.0) (next_seen field_view fs i f c.loop-field-test.true c.field-item.is) c.loop-field.invariant said)

pub field_values-loop-field-preserved : goal.field_values-loop-field-preserved
field_values-loop-field-preserved g t c =
    let fs = c.args.fields.now in
    let i = c.loop-field.field-index in
    let f = c.field-item.result in
    let d = object (named_view c.args.members.now.entries) in
    let v = c.in_ok-value.value in
    let front = row_views c.loop-field.values.items in
    let made : row_views c.push.new.self.items ≡ front ++ value_view v ∷ [] = rw c.in_ok-push.ensures.items (map_push value_view c.loop-field.values.items v) in
    let found = ap (λ o. unwrap_or o null) (c.member_of.ensures ∙ ap (λ k. get k d) (c.as_str.ensures.value ∙ name_seen f)) in
    let read = ap (told_value (field_view f)) (sym found) ∙ c.in_ok-value.ensures in
    rw made (goes_on front (field_views (drop i fs)) (field_views (drop (i + 1) fs)) (field_view f) d (value_view v) (field_values (fields_of (field_views fs)) d) (next_seen field_view fs i f c.loop-field-test.true c.field-item.is) c.loop-field.invariant read)

pub field_values-field_value-requires : goal.field_values-field_value-requires
field_values-field_value-requires g t c κs within =
    let fs = c.args.fields.now in
    let i = c.loop-field.field-index in
    let f = c.field-item.result in
    let sound : is_sound (field_view f).data_type ≡ true = sound_at fs i f c.loop-field-test.true c.field-item.is c.requires in
    let size = falls_within fs i f c.loop-field-test.true c.field-item.is in
    (omega arith, (within, sound))

pub named_struct-returns-then-has_just : goal.named_struct-returns-then-has_just
named_struct-returns-then-has_just g t c =
    let d = object (named_view c.args.members.now.entries) in
    let fs = fields_of (field_views c.args.fields.now) in
    let values = c.in_ok-values.values in
    struct_is fs d (named_view c.args.members.now.entries) (row_views values.items) refl c.in_ok-values.ensures (c.has_just.ensures c.if-has_just.true) ∙ ap (λ (v : Row). Ok v) (sym (view-Struct values))

pub struct_value-returns-in-Some : goal.struct_value-returns-in-Some
struct_value-returns-in-Some g t c =
    let fs = fields_of (field_views c.args.fields.now) in
    let ms = named_view c.in-Some.members.entries in
    let is : json_view c.args.value.now ≡ object ms = object_is (json_view c.args.value.now) ms (sym (rw c.in-Some.is at c.in_ok-members-in_default.ensures)) in
    rw is c.named_struct.ensures

pub struct_value-returns-in_err-values-in-Object : goal.struct_value-returns-in_err-values-in-Object
struct_value-returns-in_err-values-in-Object g t c =
    let ms = c.deref-in-Object.result.now in
    let p = err_from_is_err_and c.from_residual.result c.from_residual.ensures.1 in
    let is = object_seen c.in-Object.members ms c.args.value.now c.deref-in-Object.ensures.value c.in-Object.is in
    rw (p.1, p.2) (struct_fails (fields_of (field_views c.args.fields.now)) (json_view c.args.value.now) (members_view ms) (says c.in_err-values-in-Object.field-0.0) is c.in_err-values-in-Object.ensures)

pub struct_value-returns-in_ok-values-in-Object : goal.struct_value-returns-in_ok-values-in-Object
struct_value-returns-in_ok-values-in-Object g t c =
    let cs = field_views c.args.fields.now in
    let ms = c.deref-in-Object.result.now in
    let values = c.in_ok-values-in-Object.values in
    let is = object_seen c.in-Object.members ms c.args.value.now c.deref-in-Object.ensures.value c.in-Object.is in
    let same = ap member_names (c.deref-in-Object.ensures.value ∙ sym c.deref.ensures.value) ∙ c.stands_in_order.ensures.0 c.if-stands_in_order.true in
    rw is (struct_is (fields_of cs) (object (members_view ms)) (members_view ms) (row_views values.items) refl c.in_ok-values-in-Object.ensures (all_known cs ms same)) ∙ ap (λ (v : Row). Ok v) (sym (view-Struct values))

pub values_in_order-bounds-members-i : goal.values_in_order-bounds-members-i
values_in_order-bounds-members-i g t c = let many = as_many c.args.fields.now c.args.members.now c.requires.in_order in omega arith

pub values_in_order-field_value-requires : goal.values_in_order-field_value-requires
values_in_order-field_value-requires g t c κs within =
    let fs = c.args.fields.now in
    let i = c.loop-i.i in
    let f = c.index-fields-i.result in
    let sound : is_sound (field_view f).data_type ≡ true = sound_at fs i f c.loop-i-test.true c.index-fields-i.is c.requires.sound in
    let size = falls_within fs i f c.loop-i-test.true c.index-fields-i.is in
    (omega arith, (within, sound))

pub values_in_order-returns-in_err-value : goal.values_in_order-returns-in_err-value
values_in_order-returns-in_err-value g t c =
    let fs = c.args.fields.now in
    let ms = c.args.members.now in
    let i = c.loop-i.i in
    let f = c.index-fields-i.result in
    let d = object (members_view ms) in
    let p = err_from_is_err_and c.from_residual-in_err-value.result c.from_residual-in_err-value.ensures.1 in
    let found = found_at fs ms i f c.index-members-i.result c.loop-i-test.true c.index-fields-i.is c.requires.sound c.requires.in_order in
    let said = subst (λ v. IsSaid (says c.in_err-value.field-0.0) (told_value (field_view f) v)) found c.in_err-value.ensures in
    rw (p.1, p.2) (first_fails (row_views c.loop-i.values.items) (field_views (drop i fs)) (field_views (drop (i + 1) fs)) (field_view f) d (field_values (fields_of (field_views fs)) d) (says c.in_err-value.field-0.0) (next_seen field_view fs i f c.loop-i-test.true c.index-fields-i.is) c.loop-i.invariant said)

pub values_in_order-loop-i-preserved : goal.values_in_order-loop-i-preserved
values_in_order-loop-i-preserved g t c =
    let fs = c.args.fields.now in
    let ms = c.args.members.now in
    let i = c.loop-i.i in
    let f = c.index-fields-i.result in
    let d = object (members_view ms) in
    let v = c.in_ok-value.value in
    let front = row_views c.loop-i.values.items in
    let made : row_views c.push.new.self.items ≡ front ++ value_view v ∷ [] = rw c.in_ok-push.ensures.items (map_push value_view c.loop-i.values.items v) in
    let found = found_at fs ms i f c.index-members-i.result c.loop-i-test.true c.index-fields-i.is c.requires.sound c.requires.in_order in
    let read = ap (told_value (field_view f)) (sym found) ∙ c.in_ok-value.ensures in
    rw made (goes_on front (field_views (drop i fs)) (field_views (drop (i + 1) fs)) (field_view f) d (value_view v) (field_values (fields_of (field_views fs)) d) (next_seen field_view fs i f c.loop-i-test.true c.index-fields-i.is) c.loop-i.invariant read)
