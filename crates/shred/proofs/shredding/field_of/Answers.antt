use Rattle.std.proofs.Common.{ap, ◌∙◌, sym}
use Rattle.row_core.specs.Rows.{values_of}
use Rattle.row_core.specs.Views.{value_view, row_views}
use Rattle.shred.specs.Columns.{field_at, value_at}
use Rattle.shred.proofs.Values.{view-Struct, item_seen}
use Rattle.shred.proofs.shredding.field_of.Goals as goal

pub returns-in-Struct : goal.returns-in-Struct
returns-in-Struct c =
    let place = c.args.place in
    let view = ap value_view c.in-Struct.is ∙ view-Struct c.in-Struct.values in
    item_seen c.deref.result.now place c.get.result c.get.ensures.lookup ∙ (ap (λ xs. value_at place (values_of (row_views xs))) c.deref.ensures.value ∙ ap (field_at place) (sym view))
