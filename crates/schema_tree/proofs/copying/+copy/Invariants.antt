use Rattle.std.proofs.Common.{◌≡◌, take}
use Rattle.schema_tree.specs.View.{field_views}
use Rattle.schema_tree.proofs.copying.+copy.Given as goal

abbrev pub invariant-copy_fields-loop-field : goal.invariant-copy_fields-loop-field
invariant-copy_fields-loop-field g l = field_views l.copies.items ≡ field_views (take l.field-index l.fields)
