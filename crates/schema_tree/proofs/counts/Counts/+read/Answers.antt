use Rattle.std.proofs.Common.{rules, ◌≡◌, suc, ◌≤◌, [], map, drop, get_or, ◌+◌, ◌-◌, ◌<◌, length, ◌∷◌, ◌++◌, Ok, Err, None, ap, sym, ◌∙◌, arith}
use Rattle.std.proofs.lemmas.List.{drop_more, drop_all, map_push}
use Rattle.std.proofs.lemmas.Bool.Decides.{nat_tests}
use Rattle.std.proofs.lemmas.Result.{err_from_is_err_and}
use Rattle.outcomes.specs.Outcome.{IsSaid}
use Rattle.serde_json.specs.Data.{depth, items_depth, string, object}
use Rattle.serde_json.specs.View.{view as value_view, items_view, members_view}
use Rattle.serde_json.specs.declared.value.Value.{the_lemmas}
use Rattle.serde_json.proofs.Views.{view-Object}
use Rattle.schema_tree.specs.Tree.{Tree}
use Rattle.schema_tree.specs.declared.fault.ReadError.TheVariants as errors
use Rattle.schema_tree.specs.Fault.{says, fault_of, no_fields}
use Rattle.schema_tree.specs.Internal.{met_of}
use Rattle.schema_tree.specs.Reading.{node_of, struct_of, fields_behind, field_of}
use Rattle.schema_tree.specs.View.{view, field_view, field_views}
use Rattle.schema_tree.proofs.ReadNodes.{view-Array, view-Map, array_is, map_is, string_node, object_node, struct_is, struct_is_empty, struct_fails, goes_on, ends, is_done, item_depth}
use Rattle.schema_tree.proofs.counts.Counts.+read.Goals as goal

pub array-returns : goal.array-returns
array-returns t c =
    let d = value_view c.args.value.now in
    let element = c.in_ok-element.element in
    let box = c.in_ok-new.field-0 in
    let nullable = c.in_ok-contains_null.contains_null in
    let same : view box.value ≡ view element = ap view c.in_ok-new.ensures.ok in
    array_is (node_of c.args.below) d (met_of c.args.self.now) nullable (value_view c.in_ok-needed.field-0.now) (view element) (met_of c.node.new.self) c.in_ok-contains_null.ensures c.in_ok-needed.ensures.found c.in_ok-element.ensures
    ∙ ap (λ (t : Tree). Ok (t, met_of c.node.new.self)) (rw (← same) (sym (view-Array box nullable)))

pub fields-returns-in_err-items : goal.fields-returns-in_err-items
fields-returns-in_err-items t c =
    let p = err_from_is_err_and c.from_residual.result c.from_residual.ensures.1 in
    rw (p.1, p.2) (struct_fails (node_of c.args.below) (value_view c.args.value.now) (met_of c.args.self.now) (fault_of c.in_err-items.field-0.0) c.in_err-items.ensures.found)

pub fields-returns-then-is_empty : goal.fields-returns-then-is_empty
fields-returns-then-is_empty t c =
    let none : length c.in_ok-items.items.now ≡ 0 = grind (arith, nat_tests) in
    let e : struct_of (node_of c.args.below) (value_view c.args.value.now) (met_of c.args.self.now) ≡ Err (no_fields None) = struct_is_empty (node_of c.args.below) (value_view c.args.value.now) (met_of c.args.self.now) c.in_ok-items.items.now c.in_ok-items.ensures.found none in
    rw (c.into.ensures, c.no_fields.ensures) e

pub fields-returns : goal.fields-returns
fields-returns t c =
    let some : 0 < length c.in_ok-items.items.now = grind (arith, nat_tests) in
    rw (struct_is (node_of c.args.below) (value_view c.args.value.now) (met_of c.args.self.now) c.in_ok-items.items.now c.in_ok-items.ensures.found some) c.all_fields.ensures

pub map-returns : goal.map-returns
map-returns t c =
    let d = value_view c.args.value.now in
    let k = c.in_ok-new.field-0 in
    let v = c.in_ok-new-2.field-0 in
    let nullable = c.in_ok-value_contains_null.value_contains_null in
    let same_key : view k.value ≡ view c.in_ok-key.key = ap view c.in_ok-new.ensures.ok in
    let same_value : view v.value ≡ view c.in_ok-value.value = ap view c.in_ok-new-2.ensures.ok in
    map_is (node_of c.args.below) d (met_of c.args.self.now) nullable (value_view c.in_ok-key_type.key_type.now) (value_view c.in_ok-value_type.value_type.now) (view c.in_ok-key.key) (view c.in_ok-value.value) (met_of c.node.new.self) (met_of c.node-2.new.self)
    c.in_ok-value_contains_null.ensures c.in_ok-key_type.ensures.found c.in_ok-value_type.ensures.found c.in_ok-key.ensures c.in_ok-value.ensures
    ∙ ap (λ (t : Tree). Ok (t, met_of c.node-2.new.self)) (rw (← same_key, ← same_value) (sym (view-Map k v nullable)))

pub node-returns-in_ok-primitive-in-String : goal.node-returns-in_ok-primitive-in-String
node-returns-in_ok-primitive-in-String t c =
    let below = c.args.below in
    let d = value_view c.args.value.now in
    let name = c.as_str.result.now in
    let found = c.in_ok-primitive-in-String in
    let k : below ≡ suc (below - 1) = omega arith in
    let is : d ≡ string name = ap value_view c.in-String.is ∙ rw c.as_str.ensures.value (search (rules, the_lemmas)) in
    string_node below (below - 1) d name (met_of c.args.self.now) c.count.new.self (Ok found.field-0) k is c.in_ok-count.ensures found.ensures

pub node-returns-in_err-primitive-in-String : goal.node-returns-in_err-primitive-in-String
node-returns-in_err-primitive-in-String t c =
    let below = c.args.below in
    let d = value_view c.args.value.now in
    let name = c.as_str.result.now in
    let refused = c.in_err-primitive-in-String in
    let k : below ≡ suc (below - 1) = omega arith in
    let is : d ≡ string name = ap value_view c.in-String.is ∙ rw c.as_str.ensures.value (search (rules, the_lemmas)) in
    let p = err_from_is_err_and c.from_residual-in_err-primitive-in-String.result c.from_residual-in_err-primitive-in-String.ensures.1 in
    rw (p.1, p.2) (string_node below (below - 1) d name (met_of c.args.self.now) c.count.new.self (Err (errors.Fault refused.field-0.0)) k is c.in_ok-count.ensures refused.ensures)

pub node-returns-in-Object : goal.node-returns-in-Object
node-returns-in-Object t c =
    let below = c.args.below in
    let d = value_view c.args.value.now in
    let k : below ≡ suc (below - 1) = omega arith in
    let is : d ≡ object (members_view c.in-Object.field-0.entries) = ap value_view c.in-Object.is ∙ view-Object c.in-Object.field-0 in
    rw (object_node below (below - 1) d (members_view c.in-Object.field-0.entries) (met_of c.args.self.now) (met_of c.count.new.self) k is c.in_ok-count.ensures) c.nested.ensures

pub all_fields-field-requires : goal.all_fields-field-requires
all_fields-field-requires t c =
    let xs = c.args.items.now in
    let x = c.item-item.result in
    let here : depth (value_view (get_or xs c.loop-item.item-index x)) ≤ items_depth (items_view xs) = item_depth xs c.loop-item.item-index x (omega arith) in
    let same : depth (value_view (get_or xs c.loop-item.item-index x)) ≡ depth (value_view x) = ap (λ v. depth (value_view v)) (sym c.item-item.is) in
    (search rules, omega arith)

pub all_fields-returns-in_err-field : goal.all_fields-returns-in_err-field
all_fields-returns-in_err-field t c =
    let xs = c.args.items.now in
    let i = c.loop-item.item-index in
    let x = c.item-item.result in
    let here : drop i xs ≡ x ∷ drop (i + 1) xs = drop_more xs i x (omega arith) ∙ ap (λ y. y ∷ drop (i + 1) xs) (sym c.item-item.is) in
    let p = err_from_is_err_and c.from_residual-in_err-field.result c.from_residual-in_err-field.ensures.1 in
    let read = node_of c.args.below in
    let given : IsSaid (says c.in_err-field.field-0.0) (field_of read (map (λ c. c.name) (field_views c.loop-item.fields.items)) (value_view x) (met_of c.loop-item.self)) = rw c.deref.ensures.value at c.in_err-field.ensures in
    rw (p.1, p.2) (ends read (field_views c.loop-item.fields.items) (drop i xs) (drop (i + 1) xs) x (met_of c.loop-item.self) c.in_err-field.field-0.0 (fields_behind read [] (items_view xs) (met_of c.args.self.now)) here given c.loop-item.invariant)

pub all_fields-loop-item-preserved : goal.all_fields-loop-item-preserved
all_fields-loop-item-preserved t c =
    let xs = c.args.items.now in
    let i = c.loop-item.item-index in
    let x = c.item-item.result in
    let here : drop i xs ≡ x ∷ drop (i + 1) xs = drop_more xs i x (omega arith) ∙ ap (λ y. y ∷ drop (i + 1) xs) (sym c.item-item.is) in
    let read = node_of c.args.below in
    let front = field_views c.loop-item.fields.items in
    let given : field_of read (map (λ c. c.name) front) (value_view x) (met_of c.loop-item.self) ≡ Ok (field_view c.in_ok-field.field, met_of c.field.new.self) = rw c.deref.ensures.value at c.in_ok-field.ensures in
    let made : field_views c.push.new.self.items ≡ front ++ field_view c.in_ok-field.field ∷ [] = rw c.in_ok-push.ensures.items (map_push _ c.loop-item.fields.items c.in_ok-field.field) in
    rw made (goes_on read front (drop i xs) (drop (i + 1) xs) x (met_of c.loop-item.self) (met_of c.field.new.self) (field_view c.in_ok-field.field) (fields_behind read [] (items_view xs) (met_of c.args.self.now)) here given c.loop-item.invariant)

pub all_fields-returns : goal.all_fields-returns
all_fields-returns t c =
    let xs = c.args.items.now in
    let read = node_of c.args.below in
    is_done read (field_views c.loop-item.fields.items) (drop c.loop-item.item-index xs) (met_of c.loop-item.self) (fields_behind read [] (items_view xs) (met_of c.args.self.now)) (drop_all c.loop-item.item-index xs (omega arith)) c.loop-item.invariant
