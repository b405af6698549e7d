use Rattle.std.proofs.Common.{subst}
use Rattle.schema_tree.specs.Schema.{tree_of}
use Rattle.schema_tree.specs.Tree.{struct, fields_of}
use Rattle.schema_tree.specs.View.{field_views}
use Rattle.row_core.specs.Printer.{data_by, layout_views, printed, PrintsType}
use Rattle.row_core.proofs.OrderedMembers.{row_printed, struct_printed, made_printed}
use Rattle.row_core.proofs.printer.RowPrinter.of_schema.Goals as goal

pub returns : goal.returns
unfolding printed
returns g c =
    let members = c.in_ok-members.members in
    let inside : PrintsType (data_by (layout_views members.entries)) (struct (fields_of (field_views c.fields.result.now))) = struct_printed _ _ c.in_ok-members.ensures in
    let whole : PrintsType (data_by (layout_views members.entries)) (tree_of c.args.schema.now) = subst (λ cs. PrintsType (data_by (layout_views members.entries)) (struct (fields_of cs))) c.fields.ensures inside in
    row_printed (tree_of c.args.schema.now) _ (subst (λ print. PrintsType print (tree_of c.args.schema.now)) (made_printed 0 members) whole)
