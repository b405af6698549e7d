use Rattle.std.proofs.Common.{Some, sym, ap, ◌∙◌}
use Rattle.outcomes.specs.Options.{◌>>=◌}
use Rattle.schema_tree.specs.Schema.{tree_of}
use Rattle.schema_tree.specs.Tree as tree
use Rattle.schema_tree.specs.Tree.{fields_of as tree_fields}
use Rattle.schema_tree.specs.View.{field_views as column_views}
use Rattle.shred.specs.Shape as shape
use Rattle.shred.specs.Shape.{fields_of as shape_fields}
use Rattle.shred.specs.Views.{field_views as shape_field_views}
use Rattle.parquet_schema.specs.FileTree as trees
use Rattle.parquet_schema.specs.FileTree.{fields_of}
use Rattle.parquet_schema.specs.Fitting.{fitted}
use Rattle.parquet_schema.specs.Leaves.{leaves_in, leaves_of_fields}
use Rattle.parquet_schema.specs.Views.{field_views}
use Rattle.parquet_schema.proofs.PutLeaves.{shape-Struct}
use Rattle.parquet_schema.proofs.fitting.fit.Goals as goal

pub returns-clause-shape : goal.returns-clause-shape
returns-clause-shape g c =
    let found = c.in_ok-fields.fields.items in
    let columns = c.fields.result.now in
    ap (λ fs. fs >>= λ gs. fitted (tree_of c.args.schema.now) (trees.group (fields_of gs))) c.in_ok-fields.ensures
    ∙ (ap (λ cs. fitted (tree.struct (tree_fields cs)) (trees.group (fields_of (field_views found)))) (sym c.fields.ensures)
    ∙ (ap (λ fs. fitted (tree.struct (tree_fields (column_views columns))) (trees.group (fields_of (field_views fs)))) (sym c.deref.ensures.value)
    ∙ (c.in_ok-shapes.ensures ∙ ap (λ s. Some s) (sym (shape-Struct c.in_ok-shapes.shapes)))))

pub returns-clause-leaves : goal.returns-clause-leaves
returns-clause-leaves g c =
    let shapes = c.in_ok-shapes.shapes in
    c.in_ok-leaves.ensures
    ∙ (ap (λ cs. leaves_of_fields (tree_fields cs) (shape_fields (shape_field_views c.deref-2.result.now))) c.fields-2.ensures
    ∙ (ap (λ ss. leaves_in (tree_of c.args.schema.now) (shape.struct (shape_fields (shape_field_views ss)))) c.deref-2.ensures.value ∙ ap (leaves_in (tree_of c.args.schema.now)) (sym (shape-Struct shapes))))
