use Rattle.std.proofs.Common.{◌≡◌, map, take}
use Rattle.serde_json.specs.View.{view as value_view}
use Rattle.schema_tree.proofs.PrintedFields.{printed}
use Rattle.schema_tree.proofs.+print.Given as goal

abbrev pub invariant-printing::items_of-loop-field : goal.invariant-printing::items_of-loop-field
invariant-printing::items_of-loop-field g l = map value_view l.items.items ≡ map printed (take l.field-index l.fields)
