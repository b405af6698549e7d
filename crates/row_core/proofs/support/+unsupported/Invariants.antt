use Rattle.std.proofs.Common.{◌≡◌, drop}
use Rattle.row_core.specs.Unsupported.{unsupported_field}
use Rattle.schema_tree.specs.Tree.{fields_of}
use Rattle.schema_tree.specs.View.{field_views}
use Rattle.row_core.proofs.support.+unsupported.Given as goal

-- the fields so far have rows
abbrev pub invariant-in_fields-loop-field : goal.invariant-in_fields-loop-field
invariant-in_fields-loop-field g l = unsupported_field (fields_of (field_views (drop l.field-index l.fields))) ≡ unsupported_field (fields_of (field_views l.fields))
