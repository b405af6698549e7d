use Rattle.std.proofs.Common.{◌≡◌, drop}
use Rattle.schema_tree.specs.Tree.{fields_of}
use Rattle.schema_tree.specs.View.{field_views}
use Rattle.row_core.specs.Conforms.{are_values}
use Rattle.row_core.specs.Rows.{values_of}
use Rattle.row_core.specs.Views.{row_views}
use Rattle.row_core.proofs.conforming.+conform.Given as goal

-- the values so far are those of their fields, so those left decide
abbrev pub invariant-are_values-loop-i : goal.invariant-are_values-loop-i
invariant-are_values-loop-i g l =
    are_values (fields_of (field_views (drop l.i l.fields))) (values_of (row_views (drop l.i l.values))) ≡ are_values (fields_of (field_views l.fields)) (values_of (row_views l.values))
