use Rattle.std.proofs.Common.{◌≡◌, ap, sym, subst, ◌∙◌}
use Rattle.schema_tree.specs.Schema.{tree_of}
use Rattle.schema_tree.specs.Tree.{fields_of as tree_fields}
use Rattle.shred.specs.Shape as specs
use Rattle.shred.specs.Shape.{HasFields, shape_of, shapes_of}
use Rattle.shred.specs.Views.{shape_view}
use Rattle.shred.specs.declared.shapes.Shape.TheVariants as shapes
use Rattle.shred.proofs.Filled.{sound_filled}
use Rattle.shred.proofs.ShapeViews.{shape-Struct}
use Rattle.shred.proofs.shapes.Shape.of_schema.Goals as goal

pub returns-clause-shape : goal.returns-clause-shape
returns-clause-shape g c = shape-Struct _ ∙ ap specs.struct (c.in_ok-shapes.ensures ∙ ap (λ cs. shapes_of (tree_fields cs)) c.fields.ensures)

pub returns-clause-filled : goal.returns-clause-filled
returns-clause-filled g c =
    let same : shape_view (shapes.Struct c.in_ok-shapes.field-0) ≡ shape_of (tree_of c.args.schema.now) = shape-Struct c.in_ok-shapes.field-0 ∙ ap specs.struct (c.in_ok-shapes.ensures ∙ ap (λ cs. shapes_of (tree_fields cs)) c.fields.ensures) in
    subst (λ s. HasFields s) (sym same) (sound_filled (tree_of c.args.schema.now) c.args.schema.now.within_limits.sound)
