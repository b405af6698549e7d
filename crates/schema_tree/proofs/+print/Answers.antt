use Rattle.std.proofs.Common.{◌≡◌, ◌∙◌, sym, ap, subst, IfOk}
use Rattle.serde_json.specs.View.{view as value_view, items_of}
use Rattle.schema_tree.specs.Printing.{data_of, items_of_fields, struct_data}
use Rattle.schema_tree.specs.Tree.{fields_of}
use Rattle.schema_tree.specs.View.{view, field_views}
use Rattle.schema_tree.proofs.StructView.{view-Struct}
use Rattle.schema_tree.proofs.FieldLoops.{one_more, all_made}
use Rattle.schema_tree.proofs.PrintedFields.{printed, items_printed}
use Rattle.schema_tree.proofs.+print.Goals as goal

pub node::Node::to_value-returns-in_ok-items-in-Struct : goal.node::Node::to_value-returns-in_ok-items-in-Struct
node::Node::to_value-returns-in_ok-items-in-Struct g t c =
    let seen : struct_data (items_of_fields (fields_of (field_views c.in-Struct.fields.items))) ≡ data_of (view c.args.self.now) = rw c.in-Struct.is (ap data_of (sym (view-Struct c.in-Struct.fields))) in
    let made = c.in_ok-items-in-Struct.ensures ∙ ap (λ fs. items_of_fields (fields_of (field_views fs))) c.deref.ensures.value in
    subst (λ d. IfOk c.struct_value.result (λ v. value_view v ≡ d)) (ap struct_data made ∙ seen) c.struct_value.ensures

pub printing::items_of-loop-field-preserved : goal.printing::items_of-loop-field-preserved
printing::items_of-loop-field-preserved g t c = one_more value_view printed c.push.new.self.items c.loop-field.items.items c.in_ok-to_value.field-0 c.args.fields.now c.field-item.result c.loop-field.field-index c.loop-field-test.true c.in_ok-push.ensures.items c.field-item.is c.in_ok-to_value.ensures c.loop-field.invariant

pub printing::items_of-returns : goal.printing::items_of-returns
printing::items_of-returns g t c = ap items_of (all_made value_view printed c.loop-field.items.items c.args.fields.now c.loop-field.field-index c.loop-field-test.false c.loop-field.invariant) ∙ items_printed c.args.fields.now
