use Rattle.std.proofs.Common.{rules, ◌≡◌, length, pos, [], ◌∷◌, ◌++◌, refl, ◌∙◌, Ok, w16, to_z, of_z, ℤ}
use Rattle.std.proofs.lemmas.Int.{to_z-of_z}
use Rattle.std.proofs.lemmas.Result.{err_from_is_err_and}
use Rattle.std.proofs.lemmas.List.{map_push}
use Rattle.thrift_core.specs.Reading.{counted, value_ahead, repeated, entry_ahead, fields_ahead}
use Rattle.thrift_values.specs.View.{view, views, entry_view, entry_views, field_view, field_views}
use Rattle.thrift_values.specs.Tree.{Tree}
use Rattle.thrift_values.specs.declared.value.Field.{roll-Field}
use Rattle.thrift_values.specs.declared.value.TValue.{the_lemmas}
use Rattle.thrift_core.proofs.Loop.{goes_on, ends, is_done, field_goes_on, header_fails, field_fails, fields_stop, fields_run_out, nested_list, nested_map, nested_struct}
use Rattle.thrift_core.proofs.source.Source.+read.Goals as goal

pub members-returns-in_err-member : goal.members-returns-in_err-member
members-returns-in_err-member g t c =
    let read = value_ahead c.args.depth c.args.wire in
    let p = err_from_is_err_and c.from_residual.result c.from_residual.ensures.1 in
    rw (p.1, p.2) (ends read c.in_err-member.field-0.0 (views c.loop.members.items) c.args.size c.loop.counter c.loop.self (repeated read c.args.size c.args.self.now) c.loop-test.true c.in_err-member.ensures c.loop.invariant)

pub members-loop-preserved : goal.members-loop-preserved
members-loop-preserved g t c =
    let read = value_ahead c.args.depth c.args.wire in
    let member = c.in_ok-member.member in
    let e : views c.push.new.self.items ≡ views c.loop.members.items ++ view member ∷ [] = rw c.in_ok-push.ensures.items (map_push _ c.loop.members.items member) in
    rw e (goes_on read (views c.loop.members.items) c.args.size c.loop.counter c.loop.self (view member) c.value.new.self (repeated read c.args.size c.args.self.now) c.loop-test.true c.in_ok-member.ensures c.loop.invariant)

pub members-returns : goal.members-returns
members-returns g t c =
    let read = value_ahead c.args.depth c.args.wire in
    is_done read (views c.loop.members.items) c.args.size c.loop.counter c.loop.self (repeated read c.args.size c.args.self.now) c.loop-test.false c.loop.invariant

pub entries-returns-in_err-entry : goal.entries-returns-in_err-entry
entries-returns-in_err-entry g t c =
    let read = entry_ahead (value_ahead c.args.depth) c.args.key c.args.value in
    let p = err_from_is_err_and c.from_residual.result c.from_residual.ensures.1 in
    rw (p.1, p.2) (ends read c.in_err-entry.field-0.0 (entry_views c.loop.entries.items) c.args.size c.loop.counter c.loop.self (repeated read c.args.size c.args.self.now) c.loop-test.true c.in_err-entry.ensures c.loop.invariant)

pub entries-loop-preserved : goal.entries-loop-preserved
entries-loop-preserved g t c =
    let read = entry_ahead (value_ahead c.args.depth) c.args.key c.args.value in
    let entry = c.in_ok-entry.entry in
    let e : entry_views c.push.new.self.items ≡ entry_views c.loop.entries.items ++ entry_view entry ∷ [] = rw c.in_ok-push.ensures.items (map_push _ c.loop.entries.items entry) in
    rw e (goes_on read (entry_views c.loop.entries.items) c.args.size c.loop.counter c.loop.self (entry_view entry) c.entry.new.self (repeated read c.args.size c.args.self.now) c.loop-test.true c.in_ok-entry.ensures c.loop.invariant)

pub entries-returns : goal.entries-returns
entries-returns g t c =
    let read = entry_ahead (value_ahead c.args.depth) c.args.key c.args.value in
    is_done read (entry_views c.loop.entries.items) c.args.size c.loop.counter c.loop.self (repeated read c.args.size c.args.self.now) c.loop-test.false c.loop.invariant

pub fields-returns-in_err-header : goal.fields-returns-in_err-header
fields-returns-in_err-header g t c =
    let read = value_ahead c.args.depth in
    let p = err_from_is_err_and c.from_residual.result c.from_residual.ensures.1 in
    rw (p.1, p.2) (header_fails read c.in_err-header.field-0.0 (field_views c.loop.fields.items) (to_z w16 c.loop.last-bits) (length c.left-end.result.now) c.loop.counter c.loop.self (fields_ahead read (pos 0) (length c.args.self.now.cursor) c.args.self.now) c.loop-test.true c.in_err-header.ensures c.loop.invariant)

pub fields-returns-then-header-eq0 : goal.fields-returns-then-header-eq0
fields-returns-then-header-eq0 g t c =
    let read = value_ahead c.args.depth in
    fields_stop read (field_views c.loop.fields.items) (to_z w16 c.loop.last-bits) (length c.left-end.result.now) c.loop.counter c.loop.self c.in_ok-header.header c.byte.new.self (fields_ahead read (pos 0) (length c.args.self.now.cursor) c.args.self.now) c.loop-test.true c.in_ok-header.ensures c.if-header-eq0.true c.loop.invariant

pub fields-returns-in_err-id : goal.fields-returns-in_err-id
fields-returns-in_err-id g t c =
    let read = value_ahead c.args.depth in
    let p = err_from_is_err_and c.from_residual-in_err-id.result c.from_residual-in_err-id.ensures.1 in
    rw (p.1, p.2) (field_fails read c.in_err-id.field-0.0 (field_views c.loop.fields.items) (to_z w16 c.loop.last-bits) (length c.left-end.result.now) c.loop.counter c.loop.self c.in_ok-header.header c.byte.new.self (fields_ahead read (pos 0) (length c.args.self.now.cursor) c.args.self.now) c.loop-test.true c.in_ok-header.ensures c.if-header-eq0.false c.in_err-id.ensures c.loop.invariant)

pub fields-loop-preserved : goal.fields-loop-preserved
fields-loop-preserved g t c =
    let read = value_ahead c.args.depth in
    let x : ℤ × Tree = (c.in_ok-id.id, view c.in_ok-id.value) in
    let fits : to_z w16 (of_z w16 c.in_ok-id.id) ≡ c.in_ok-id.id = to_z-of_z w16 c.in_ok-id.id (search rules) in
    let seen : field_view (roll-Field _ (record { id = c.in_ok-id.id; value = c.in_ok-id.value })) ≡ x = search (rules, the_lemmas) in
    let e : field_views c.push.new.self.items ≡ field_views c.loop.fields.items ++ x ∷ [] = rw (c.in_ok-push.ensures.items, fits) (map_push field_view c.loop.fields.items (roll-Field _ (record { id = c.in_ok-id.id; value = c.in_ok-id.value })) ∙ rw seen refl) in
    rw (fits, e) (field_goes_on read (field_views c.loop.fields.items) (to_z w16 c.loop.last-bits) (length c.left-end.result.now) c.loop.counter c.loop.self c.in_ok-header.header c.byte.new.self x c.field.new.self (fields_ahead read (pos 0) (length c.args.self.now.cursor) c.args.self.now) c.loop-test.true c.in_ok-header.ensures c.if-header-eq0.false c.in_ok-id.ensures c.loop.invariant)

pub fields-returns : goal.fields-returns
fields-returns g t c =
    let read = value_ahead c.args.depth in
    rw c.into.ensures (fields_run_out read (field_views c.loop.fields.items) (to_z w16 c.loop.last-bits) (length c.left-end.result.now) c.loop.counter c.loop.self (fields_ahead read (pos 0) (length c.args.self.now.cursor) c.args.self.now) c.loop-test.false c.loop.invariant)

pub value-returns-in_ok-deeper-in-List : goal.value-returns-in_ok-deeper-in-List
value-returns-in_ok-deeper-in-List g t c =
    let one : counted c.args.self.now ≡ Ok c.count.new.self = c.in_ok-count.ensures in
    rw (c.in-List.is, nested_list c.args.depth c.in_ok-deeper-in-List.field-0 c.args.self.now c.count.new.self c.in_ok-deeper-in-List.ensures.inside one) c.list.ensures

pub value-returns-in_ok-deeper-in-Map : goal.value-returns-in_ok-deeper-in-Map
value-returns-in_ok-deeper-in-Map g t c =
    let one : counted c.args.self.now ≡ Ok c.count.new.self = c.in_ok-count.ensures in
    rw (c.in-Map.is, nested_map c.args.depth c.in_ok-deeper-in-Map.field-0 c.args.self.now c.count.new.self c.in_ok-deeper-in-Map.ensures.inside one) c.map.ensures

pub value-returns-in_ok-deeper-in-Struct : goal.value-returns-in_ok-deeper-in-Struct
value-returns-in_ok-deeper-in-Struct g t c =
    let one : counted c.args.self.now ≡ Ok c.count.new.self = c.in_ok-count.ensures in
    rw (c.in-Struct.is, nested_struct c.args.depth c.in_ok-deeper-in-Struct.field-0 c.args.self.now c.count.new.self c.in_ok-deeper-in-Struct.ensures.inside one) c.structure.ensures
