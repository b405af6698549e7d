use Rattle.std.proofs.Common.{◌≡◌, ◌+◌, ◌≤◌, drop}
use Rattle.serde_json.specs.Data.{object}
use Rattle.json_text.specs.View.{named_view}
use Rattle.schema_tree.specs.Tree.{fields_of}
use Rattle.schema_tree.specs.View.{field_views}
use Rattle.row_core.proofs.KnownNames.{found}
use Rattle.row_core.proofs.reading.has_just.Given as goal

-- the fields so far that were found are counted
abbrev pub invariant-loop-field : goal.invariant-loop-field
invariant-loop-field g l = record {
  counted : l.found + found (fields_of (field_views (drop l.field-index l.fields))) (object (named_view l.members.entries)) ≡ found (fields_of (field_views l.fields)) (object (named_view l.members.entries));
  within : l.found ≤ l.field-index;
}
