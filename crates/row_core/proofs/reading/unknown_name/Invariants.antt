use Rattle.std.proofs.Common.{◌≡◌}
use Rattle.json_text.specs.View.{named_view}
use Rattle.schema_tree.specs.Tree.{fields_of}
use Rattle.schema_tree.specs.View.{field_views}
use Rattle.row_core.specs.Reading.{unknown_name}
use Rattle.row_core.proofs.reading.unknown_name.Given as goal

-- the names so far are those of fields
abbrev pub invariant-loop-name : goal.invariant-loop-name
invariant-loop-name g l = unknown_name (fields_of (field_views l.fields)) (named_view l.name-iterator) ≡ unknown_name (fields_of (field_views l.fields)) (named_view l.members.entries)
