use Rattle.std.proofs.Common.{◌≡◌, drop}
use Rattle.serde_json.specs.Data.{object}
use Rattle.json_text.specs.View.{named_view, members_view}
use Rattle.outcomes.proofs.Callers.{with_front}
use Rattle.schema_tree.specs.Tree.{fields_of}
use Rattle.schema_tree.specs.View.{field_views}
use Rattle.row_core.specs.Reading.{field_values}
use Rattle.row_core.specs.Views.{row_views}
use Rattle.row_core.proofs.reading.+read.Given as goal

-- the values so far and those of the fields that are left are all values
abbrev pub invariant-field_values-loop-field : goal.invariant-field_values-loop-field
invariant-field_values-loop-field g l =
    with_front (row_views l.values.items) (field_values (fields_of (field_views (drop l.field-index l.fields))) (object (named_view l.members.entries))) ≡ field_values (fields_of (field_views l.fields)) (object (named_view l.members.entries))

abbrev pub invariant-values_in_order-loop-i : goal.invariant-values_in_order-loop-i
invariant-values_in_order-loop-i g l =
    with_front (row_views l.values.items) (field_values (fields_of (field_views (drop l.i l.fields))) (object (members_view l.members))) ≡ field_values (fields_of (field_views l.fields)) (object (members_view l.members))
