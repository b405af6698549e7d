use Rattle.std.proofs.Common.{◌≡◌, drop}
use Rattle.std.specs.Prelude.{is_none}
use Rattle.schema_tree.specs.Tree.{fields_of}
use Rattle.schema_tree.specs.View.{field_views}
use Rattle.row_core.specs.Unsupported.{unsupported_field}
use Rattle.row_core.proofs.conforming.+support.Given as goal

-- there are values of the fields so far
abbrev pub invariant-are_supported-loop-field : goal.invariant-are_supported-loop-field
invariant-are_supported-loop-field g l = is_none (unsupported_field (fields_of (field_views (drop l.field-index l.fields)))) ≡ is_none (unsupported_field (fields_of (field_views l.fields)))
