use Rattle.std.proofs.Common.{sym, ap, ◌∙◌}
use Rattle.schema_tree.specs.View.{field_view as column_view, field_views as column_views}
use Rattle.schema_tree.specs.Tree.{fields_of as tree_fields}
use Rattle.shred.specs.Shape as specs
use Rattle.shred.specs.Shape.{fields_of, field_of, shapes_of, shape_of}
use Rattle.shred.specs.Views.{field_view}
use Rattle.shred.proofs.AllSome.{one_made, all_made}
use Rattle.shred.proofs.ShapeViews.{shape-Struct, node-Struct, shapes_each}
use Rattle.shred.proofs.shapes.+of_node.Goals as goal

pub node_shape-returns-in_ok-shapes-in-Struct : goal.node_shape-returns-in_ok-shapes-in-Struct
node_shape-returns-in_ok-shapes-in-Struct g t c =
    rw c.in-Struct.is (shape-Struct c.in_ok-shapes-in-Struct.shapes ∙ (ap specs.struct (c.in_ok-shapes-in-Struct.ensures ∙ ap (λ fs. shapes_of (tree_fields (column_views fs))) c.deref.ensures.value) ∙ ap shape_of (sym (node-Struct c.in-Struct.fields))))

pub shapes-loop-field-preserved : goal.shapes-loop-field-preserved
shapes-loop-field-preserved g t c =
    one_made field_view (λ f. field_of (column_view f)) c.push.new.self.items c.loop-field.shapes.items c.in_ok-shape.shape c.args.fields.now c.field-item.result c.loop-field.field-index _ c.loop-field-test.true c.in_ok-push.ensures.items c.field-item.is c.in_ok-shape.ensures c.loop-field.invariant

pub shapes-returns : goal.shapes-returns
shapes-returns g t c =
    let made = all_made field_view (λ f. field_of (column_view f)) c.loop-field.shapes.items c.args.fields.now c.loop-field.field-index _ c.loop-field-test.false c.loop-field.invariant in
    ap fields_of made ∙ shapes_each c.args.fields.now
