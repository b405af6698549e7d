use Rattle.std.proofs.Common.{◌≡◌, true, false, bytes_eq, ◌+◌, drop, ap, sym, ◌∙◌}
use Rattle.schema_tree.specs.View.{field_view, field_views}
use Rattle.row_core.proofs.Fields.{name_seen, next_seen, named_here, not_named_here}
use Rattle.row_core.proofs.reading.is_named.Goals as goal

pub returns-then-eq : goal.returns-then-eq
returns-then-eq g c =
    let fs = c.args.fields.now in
    let i = c.loop-field.field-index in
    let f = c.field-item.result in
    let name = c.args.name.now in
    let same : bytes_eq name (field_view f).name ≡ true = ap (bytes_eq name) (sym (c.as_str.ensures.value ∙ name_seen f)) ∙ sym c.if-eq.ensures in
    named_here name (field_views (drop i fs)) (field_views (drop (i + 1) fs)) (field_view f) (next_seen field_view fs i f c.loop-field-test.true c.field-item.is) same ∙ c.loop-field.invariant

pub loop-field-preserved : goal.loop-field-preserved
loop-field-preserved g c =
    let fs = c.args.fields.now in
    let i = c.loop-field.field-index in
    let f = c.field-item.result in
    let name = c.args.name.now in
    let other : bytes_eq name (field_view f).name ≡ false = ap (bytes_eq name) (sym (c.as_str.ensures.value ∙ name_seen f)) ∙ sym c.if-eq.ensures in
    not_named_here name (field_views (drop i fs)) (field_views (drop (i + 1) fs)) (field_view f) (next_seen field_view fs i f c.loop-field-test.true c.field-item.is) other ∙ c.loop-field.invariant
