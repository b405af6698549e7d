use Rattle.std.proofs.Common.{◌≡◌, List, true, drop}
use Rattle.json_fields.specs.Printing.{put_fields}
use Rattle.row_core.specs.Conforms.{are_values}
use Rattle.row_core.specs.Printer.{layout_views, members_data}
use Rattle.row_core.specs.Printing.{fields_data}
use Rattle.row_core.specs.Rows.{Row, values_of}
use Rattle.row_core.proofs.OrderedMembers.{StillToPut}
use Rattle.schema_tree.specs.Tree.{fields_of}
use Rattle.schema_tree.specs.View.{field_views}
use Rattle.serde_json.specs.Data.{no_members}
use Rattle.row_core.proofs.printer.+order.Given as goal

-- of any values of these fields, those so far are printed as members
abbrev pub invariant-members_of-loop-i : goal.invariant-members_of-loop-i
invariant-members_of-loop-i g l =
    let cs = field_views l.fields in
    (vs : List Row) → are_values (fields_of cs) (values_of vs) ≡ true
    → StillToPut (put_fields no_members (fields_data (fields_of cs) (values_of vs))) (members_data (layout_views l.members.entries) (values_of vs)) (field_views (drop l.i l.fields)) (drop l.i vs)
