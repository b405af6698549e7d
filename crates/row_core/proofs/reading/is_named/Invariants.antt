use Rattle.std.proofs.Common.{◌≡◌, drop}
use Rattle.schema_tree.specs.Limits.{is_named}
use Rattle.schema_tree.specs.Tree.{fields_of}
use Rattle.schema_tree.specs.View.{field_views}
use Rattle.row_core.proofs.reading.is_named.Given as goal

-- the fields so far have other names
abbrev pub invariant-loop-field : goal.invariant-loop-field
invariant-loop-field g l = is_named l.name (fields_of (field_views (drop l.field-index l.fields))) ≡ is_named l.name (fields_of (field_views l.fields))
