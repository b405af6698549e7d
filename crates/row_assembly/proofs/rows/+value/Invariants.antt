use Rattle.std.proofs.Common.{◌≡◌, drop}
use Rattle.outcomes.proofs.Callers.{with_front_beside}
use Rattle.row_core.specs.Views.{row_views}
use Rattle.shred.specs.Shape.{fields_of}
use Rattle.shred.specs.Views.{field_views, cells_view}
use Rattle.row_assembly.specs.Assembly.{made_fields}
use Rattle.row_assembly.proofs.rows.+value.Given as goal

-- the values that are made and those of the fields that are left are all values
abbrev pub invariant-values-loop-field : goal.invariant-values-loop-field
invariant-values-loop-field l =
    with_front_beside (row_views l.values.items) (made_fields (fields_of (field_views (drop l.field-index l.fields))) l.level (cells_view l.cells.items)) ≡ made_fields (fields_of (field_views l.fields)) l.level (cells_view l.fn.cells.items)
