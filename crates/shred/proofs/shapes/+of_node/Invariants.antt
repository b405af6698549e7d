use Rattle.std.proofs.Common.{◌≡◌, ◌++◌, drop, map}
use Rattle.schema_tree.specs.View.{field_view as column_view}
use Rattle.shred.specs.Shape.{field_of}
use Rattle.shred.specs.Views.{field_view}
use Rattle.shred.proofs.shapes.+of_node.Given as goal

-- the shapes that are made and those of the fields that are left are all shapes
abbrev pub invariant-shapes-loop-field : goal.invariant-shapes-loop-field
invariant-shapes-loop-field g l = map field_view l.shapes.items ++ map (λ f. field_of (column_view f)) (drop l.field-index l.fields) ≡ map (λ f. field_of (column_view f)) l.fields
