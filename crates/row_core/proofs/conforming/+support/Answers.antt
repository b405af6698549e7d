use Rattle.std.proofs.Common.{◌≡◌, true, false, is_none, ◌+◌, drop, ap, sym, ◌∙◌}
use Rattle.schema_tree.specs.View.{field_view, field_views}
use Rattle.row_core.specs.Unsupported.{unsupported}
use Rattle.row_core.proofs.Fields.{struct_seen, type_seen, next_seen}
use Rattle.row_core.proofs.FirstColumn.{without_rows, with_rows}
use Rattle.row_core.proofs.conforming.+support.Goals as goal

pub is_supported-returns-in-Struct : goal.is_supported-returns-in-Struct
is_supported-returns-in-Struct g t c = c.are_supported.ensures ∙ ap (λ n. is_none (unsupported n)) (struct_seen c.in-Struct.fields c.deref.result.now c.args.node.now c.deref.ensures.value c.in-Struct.is)

pub are_supported-returns-then-not-is_supported : goal.are_supported-returns-then-not-is_supported
are_supported-returns-then-not-is_supported g t c =
    let fs = c.args.fields.now in
    let i = c.loop-field.field-index in
    let f = c.field-item.result in
    let none : false ≡ is_none (unsupported (field_view f).data_type) = sym c.if-not-is_supported.true ∙ (c.is_supported.ensures ∙ ap (λ n. is_none (unsupported n)) (type_seen f)) in
    without_rows (field_views (drop i fs)) (field_views (drop (i + 1) fs)) (field_view f) (next_seen field_view fs i f c.loop-field-test.true c.field-item.is) none ∙ c.loop-field.invariant

pub are_supported-loop-field-preserved : goal.are_supported-loop-field-preserved
are_supported-loop-field-preserved g t c =
    let fs = c.args.fields.now in
    let i = c.loop-field.field-index in
    let f = c.field-item.result in
    let some : true ≡ is_none (unsupported (field_view f).data_type) = sym c.if-not-is_supported.false ∙ (c.is_supported.ensures ∙ ap (λ n. is_none (unsupported n)) (type_seen f)) in
    with_rows (field_views (drop i fs)) (field_views (drop (i + 1) fs)) (field_view f) (next_seen field_view fs i f c.loop-field-test.true c.field-item.is) some ∙ c.loop-field.invariant
