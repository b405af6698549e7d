use Rattle.std.proofs.Common.{◌≡◌, drop}
use Rattle.shred.specs.Shape.{fields_of}
use Rattle.shred.specs.Views.{field_views, cells_view}
use Rattle.row_assembly.specs.Assembly.{passed_fields}
use Rattle.row_assembly.proofs.rows.+pass.Given as goal

-- passing the fields that are left passes all fields
abbrev pub invariant-pass_fields-loop-field : goal.invariant-pass_fields-loop-field
invariant-pass_fields-loop-field l =
    passed_fields (fields_of (field_views (drop l.field-index l.fields))) l.level (cells_view l.cells.items) ≡ passed_fields (fields_of (field_views l.fields)) l.level (cells_view l.fn.cells.items)
