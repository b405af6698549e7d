use Rattle.std.proofs.Common.{◌≡◌, ◌+◌, true, false, drop, ap, sym, ◌∙◌, arith, rules}
use Rattle.std.proofs.lemmas.List.{length-map}
use Rattle.schema_tree.specs.Tree.{struct, fields_of}
use Rattle.schema_tree.specs.View.{field_view, field_views}
use Rattle.row_core.specs.Conforms.{is_value}
use Rattle.row_core.specs.Views.{value_view, row_views}
use Rattle.row_core.specs.declared.value.Value.{the_lemmas}
use Rattle.row_core.proofs.Fields.{struct_seen, next_seen, none_seen}
use Rattle.row_core.proofs.Values.{structure_seen, is_of_column, lengths_differ, one_is_none, one_is, all_are}
use Rattle.row_core.proofs.conforming.+conform.Goals as goal

pub is_value-returns-in-Struct : goal.is_value-returns-in-Struct
is_value-returns-in-Struct g t c = c.is_struct.ensures ∙ ap (λ n. is_value n (value_view c.args.value.now)) (struct_seen c.in-Struct.fields c.deref.result.now c.args.node.now c.deref.ensures.value c.in-Struct.is)

pub is_struct-returns-in-Struct : goal.is_struct-returns-in-Struct
is_struct-returns-in-Struct g t c = c.are_values.ensures ∙ ap (is_value (struct (fields_of (field_views c.args.fields.now)))) (structure_seen c.in-Struct.values c.deref.result.now c.args.value.now c.deref.ensures.value c.in-Struct.is)

pub are_values-returns-then-fields-values : goal.are_values-returns-then-fields-values
are_values-returns-then-fields-values g t c =
    lengths_differ (field_views c.args.fields.now) (row_views c.args.values.now) (λ e. c.if-fields-values.true (sym (length-map c.args.fields.now field_view) ∙ e ∙ length-map c.args.values.now value_view))

pub are_values-returns-then-not-is_field_value : goal.are_values-returns-then-not-is_field_value
are_values-returns-then-not-is_field_value g t c =
    let fs = c.args.fields.now in
    let vs = c.args.values.now in
    let i = c.loop-i.i in
    let f = c.index-fields-i.result in
    let v = c.index-values-i.result in
    let none : is_of_column (field_view f) (value_view v) ≡ false = sym c.is_field_value.ensures ∙ c.if-not-is_field_value.true in
    one_is_none (field_views (drop i fs)) (field_views (drop (i + 1) fs)) (row_views (drop i vs)) (row_views (drop (i + 1) vs)) (field_view f) (value_view v) (next_seen field_view fs i f (omega arith) c.index-fields-i.is) (next_seen value_view vs i v (omega arith) c.index-values-i.is) none ∙ c.loop-i.invariant

pub are_values-loop-i-preserved : goal.are_values-loop-i-preserved
are_values-loop-i-preserved g t c =
    let fs = c.args.fields.now in
    let vs = c.args.values.now in
    let i = c.loop-i.i in
    let f = c.index-fields-i.result in
    let v = c.index-values-i.result in
    let is : is_of_column (field_view f) (value_view v) ≡ true = sym c.is_field_value.ensures ∙ c.if-not-is_field_value.false in
    one_is (field_views (drop i fs)) (field_views (drop (i + 1) fs)) (row_views (drop i vs)) (row_views (drop (i + 1) vs)) (field_view f) (value_view v) (next_seen field_view fs i f (omega arith) c.index-fields-i.is) (next_seen value_view vs i v (omega arith) c.index-values-i.is) is ∙ c.loop-i.invariant

pub are_values-returns : goal.are_values-returns
are_values-returns g t c =
    let fs = c.args.fields.now in
    let vs = c.args.values.now in
    let i = c.loop-i.i in
    all_are (field_views (drop i fs)) (row_views (drop i vs)) (none_seen field_view fs i (omega arith)) (none_seen value_view vs i (omega arith)) ∙ c.loop-i.invariant

pub is_struct-returns-in-Bool : goal.is_struct-returns-in-Bool
is_struct-returns-in-Bool g t c = rw c.in-Bool.is (search (rules, the_lemmas))

pub is_struct-returns-in-Int : goal.is_struct-returns-in-Int
is_struct-returns-in-Int g t c = rw c.in-Int.is (search (rules, the_lemmas))

pub is_struct-returns-in-Text : goal.is_struct-returns-in-Text
is_struct-returns-in-Text g t c = rw c.in-Text.is (search (rules, the_lemmas))

pub is_struct-returns-in-Bytes : goal.is_struct-returns-in-Bytes
is_struct-returns-in-Bytes g t c = rw c.in-Bytes.is (search (rules, the_lemmas))
