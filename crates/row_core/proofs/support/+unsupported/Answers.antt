use Rattle.std.proofs.Common.{◌≡◌, ◌+◌, drop, ap, sym, ◌∙◌, subst, IfOk, None, option_map}
use Rattle.row_core.specs.Unsupported.{unsupported, unsupported_field}
use Rattle.schema_tree.specs.Fault.{path_of}
use Rattle.schema_tree.specs.Tree.{fields_of}
use Rattle.schema_tree.specs.View.{view, field_view, field_views}
use Rattle.row_core.proofs.Fields.{view-Struct, next_seen}
use Rattle.row_core.proofs.FirstColumn.{found_here, not_here}
use Rattle.row_core.proofs.support.+unsupported.Goals as goal

pub in_type-returns-in-Struct : goal.in_type-returns-in-Struct
in_type-returns-in-Struct g t c =
    let seen : unsupported_field (fields_of (field_views c.deref.result.now)) ≡ unsupported (view c.args.node.now) =
    ap (λ fs. unsupported_field (fields_of (field_views fs))) c.deref.ensures.value ∙ (ap unsupported (sym (view-Struct c.in-Struct.fields)) ∙ ap (λ n. unsupported (view n)) (sym c.in-Struct.is)) in
    subst (λ o. IfOk c.in_fields.result (λ found. option_map path_of found ≡ o)) seen c.in_fields.ensures

pub in_fields-returns-in-Some : goal.in_fields-returns-in-Some
in_fields-returns-in-Some g t c =
    let fs = c.args.fields.now in
    let i = c.loop-field.field-index in
    let f = c.field-item.result in
    found_here (field_views (drop i fs)) (field_views (drop (i + 1) fs)) (field_view f) (path_of c.in-Some.path) (next_seen field_view fs i f c.loop-field-test.true c.field-item.is) (ap (option_map path_of) (sym c.in-Some.is) ∙ c.in_ok-path.ensures) ∙ c.loop-field.invariant

pub in_fields-loop-field-preserved : goal.in_fields-loop-field-preserved
in_fields-loop-field-preserved g t c =
    let fs = c.args.fields.now in
    let i = c.loop-field.field-index in
    let f = c.field-item.result in
    let none : c.in_ok-path.field-0 ≡ None = c.in_default.is in
    not_here (field_views (drop i fs)) (field_views (drop (i + 1) fs)) (field_view f) (next_seen field_view fs i f c.loop-field-test.true c.field-item.is) (ap (option_map path_of) (sym none) ∙ c.in_ok-path.ensures) ∙ c.loop-field.invariant
