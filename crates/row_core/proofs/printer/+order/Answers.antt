use Rattle.std.proofs.Common.{◌≡◌, ◌+◌, ◌≤◌, length, drop, string_bytes, ap, ◌∙◌, subst, arith}
use Rattle.json_fields.specs.Printing.{put_fields}
use Rattle.schema_tree.specs.Tree.{struct, fields_of}
use Rattle.schema_tree.specs.View.{view, field_view, field_views}
use Rattle.serde_json.specs.Data.{put}
use Rattle.row_core.specs.Printer.{value_at, members_data, data_by, layout_view, layout_views, PrintsType}
use Rattle.row_core.specs.Printing.{fields_data}
use Rattle.row_core.specs.Rows.{values_of}
use Rattle.row_core.proofs.Fields.{struct_seen, name_seen, type_seen, next_seen, none_seen}
use Rattle.row_core.proofs.OrderedMembers.{members_data-insert_entry, one_ordered, all_ordered, struct_printed, leaf_printed, array_printed, map_printed, made_printed}
use Rattle.row_core.proofs.printer.+order.Goals as goal
use Rattle.row_core.proofs.printer.+order.Goals.{layout_of-in-Struct+in_ok-members-in-Struct, layout_of-in-Leaf, layout_of-in-Array, layout_of-in-Map}

pub layout_of-returns-clause-prints : goal.layout_of-returns-clause-prints
layout_of-returns-clause-prints g t c =
    let node = c.args.node.now in
    let ms = layout_views c.match-node.members.entries in
    let prints : PrintsType (data_by ms) (view node) =
    elim c.match-node.branch [
      | layout_of-in-Struct+in_ok-members-in-Struct w ↦
          (let fs = w.deref.result.now in
          let is : struct (fields_of (field_views fs)) ≡ view node = struct_seen w.in-Struct.fields fs node w.deref.ensures.value w.in-Struct.is in
          let inside : PrintsType (data_by (layout_views w.in_ok-members-in-Struct.members.entries)) (struct (fields_of (field_views fs))) = struct_printed _ _ w.in_ok-members-in-Struct.ensures in
          rw w.members-is (subst (PrintsType _) is inside))
      | layout_of-in-Leaf w ↦ leaf_printed ms w.in-Leaf.field-0 node w.in-Leaf.is
      | layout_of-in-Array w ↦ array_printed ms w.in-Array.element w.in-Array.contains_null node w.in-Array.is
      | layout_of-in-Map w ↦ map_printed ms w.in-Map.key w.in-Map.value w.in-Map.value_contains_null node w.in-Map.is
    ] in
    subst (λ print. PrintsType print (view node)) (made_printed c.args.place c.match-node.members) prints

pub members_of-loop-i-preserved : goal.members_of-loop-i-preserved
members_of-loop-i-preserved g t c vs fits =
    let fs = c.args.fields.now in
    let i = c.loop-i.i in
    let f = c.index-fields-i.result in
    let old = c.loop-i.members.entries in
    let l = c.in_ok-layout.layout in
    let m = layout_view l in
    let name : string_bytes c.in_ok-name.name ≡ (field_view f).name = c.in_ok-name.ensures.ok ∙ c.as_str.ensures.value ∙ name_seen f in
    let prints : PrintsType m.printed (field_view f).data_type = subst (PrintsType m.printed) (type_seen f) c.in_ok-layout.ensures.prints in
    let is : members_data (layout_views c.insert.new.self.entries) (values_of vs) ≡ put (field_view f).name (m.printed (value_at m.place (values_of vs))) (members_data (layout_views old) (values_of vs)) =
    ap (λ es. members_data (layout_views es) (values_of vs)) c.in_ok-insert.ensures.entries ∙ members_data-insert_entry old c.in_ok-name.name l (values_of vs)
    ∙ ap (λ k. put k (m.printed (value_at m.place (values_of vs))) (members_data (layout_views old) (values_of vs))) name in
    one_ordered (field_views (drop i fs)) (field_views (drop (i + 1) fs)) (field_view f) i vs m _ _ _
    (next_seen field_view fs i f c.loop-i-test.true c.index-fields-i.is) c.in_ok-layout.ensures.place prints is (c.loop-i.invariant vs fits)

pub members_of-loop-i-init : goal.members_of-loop-i-init
members_of-loop-i-init g t c vs fits =
    (fits, ap (λ es. put_fields (members_data (layout_views es) (values_of vs)) (fields_data (fields_of (field_views c.args.fields.now)) (values_of vs))) c.new-members.ensures.empty)

pub members_of-returns : goal.members_of-returns
members_of-returns g t c =
    let fs = c.args.fields.now in
    let i = c.loop-i.i in
    let past : length fs ≤ i = omega arith in
    all_ordered (field_views fs) (field_views (drop i fs)) i _ (none_seen field_view fs i past) c.loop-i.invariant
