use Rattle.std.proofs.Common.{◌≡◌, OnOk, subst, arith, sym, ◌∙◌}
use Rattle.thrift_core.specs.View.{views}
use Rattle.parquet_file.proofs.PutElements.{all_put, fields_fall, group_put, leaf_put, one_put}
use Rattle.parquet_file.proofs.trees.+elements.Goals as goal

pub put_node-put_fields-requires : goal.put_node-put_fields-requires
put_node-put_fields-requires g t c κs within =
    let falls = fields_fall c.in-Struct.fields c.deref.result.now c.args.node.now c.deref.ensures.value c.in-Struct.is in
    (omega arith, within)

pub put_fields-loop-field-preserved : goal.put_fields-loop-field-preserved
put_fields-loop-field-preserved g t c =
    one_put c.args.fields.now c.loop-field.field-index c.field-item.result c.as_str.result.now _ _ _
    c.loop-field-test.true c.field-item.is c.as_str.ensures.value c.in_ok-put_node.ensures c.loop-field.invariant

pub put_fields-returns : goal.put_fields-returns
put_fields-returns g t c = all_put c.args.fields.now c.loop-field.field-index _ _ c.loop-field-test.false c.loop-field.invariant

pub put_node-returns-in_ok-push-in-Struct : goal.put_node-returns-in_ok-push-in-Struct
put_node-returns-in_ok-push-in-Struct g t c =
    let put = group_put c.in-Struct.fields c.deref.result.now c.args.node.now c.args.name.now c.args.nullable
    c.args.elements.now.items c.push.new.self.items c.in_ok-group_element-in-Struct.field-0 c.len.result
    c.deref.ensures.value c.in-Struct.is (c.len.ensures ∙ sym c.deref.ensures.len) c.in_ok-group_element-in-Struct.ensures
    c.in_ok-push-in-Struct.ensures.items in
    subst (λ ts. OnOk c.put_fields.result (views c.put_fields.new.elements.items ≡ ts)) put c.put_fields.ensures

pub put_node-returns-in_ok-push-in-Leaf : goal.put_node-returns-in_ok-push-in-Leaf
put_node-returns-in_ok-push-in-Leaf g t c =
    leaf_put c.in-Leaf.primitive c.args.node.now c.in-Some.leaf_type c.args.name.now c.args.nullable
    c.args.elements.now.items c.push-in-Some.new.self.items c.in_ok-leaf_element-in-Leaf.field-0 c.in-Leaf.is
    (sym c.of.ensures ∙ c.in-Some.is) c.in_ok-leaf_element-in-Leaf.ensures c.in_ok-push-in-Leaf.ensures.items
