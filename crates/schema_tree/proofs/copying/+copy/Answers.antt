use Rattle.std.proofs.Common.{◌∙◌, sym, ap}
use Rattle.schema_tree.specs.Tree as tree
use Rattle.schema_tree.specs.Tree.{fields_of}
use Rattle.schema_tree.specs.View.{field_view, field_views}
use Rattle.schema_tree.proofs.StructView.{view-Struct}
use Rattle.schema_tree.proofs.FieldLoops.{one_more, all_made}
use Rattle.schema_tree.proofs.copying.+copy.Goals as goal

pub copy_node-returns-in_ok-fields-in-Struct : goal.copy_node-returns-in_ok-fields-in-Struct
copy_node-returns-in_ok-fields-in-Struct g t c = rw c.in-Struct.is (view-Struct c.in_ok-fields-in-Struct.fields ∙ (ap (λ fs. tree.struct (fields_of fs)) (c.in_ok-fields-in-Struct.ensures ∙ ap field_views c.deref.ensures.value) ∙ sym (view-Struct c.in-Struct.fields)))

pub copy_fields-loop-field-preserved : goal.copy_fields-loop-field-preserved
copy_fields-loop-field-preserved g t c = one_more field_view field_view c.push.new.self.items c.loop-field.copies.items c.in_ok-copy.copy c.args.fields.now c.field-item.result c.loop-field.field-index c.loop-field-test.true c.in_ok-push.ensures.items c.field-item.is c.in_ok-copy.ensures c.loop-field.invariant

pub copy_fields-returns : goal.copy_fields-returns
copy_fields-returns g t c = all_made field_view field_view c.loop-field.copies.items c.args.fields.now c.loop-field.field-index c.loop-field-test.false c.loop-field.invariant
