use Rattle.std.proofs.Common.{◌≡◌, sym, ap, ◌∙◌, IfOk, rules}
use Rattle.schema_tree.specs.Tree as tree
use Rattle.schema_tree.specs.Tree.{fields_of as tree_fields}
use Rattle.schema_tree.specs.View.{field_views as column_views}
use Rattle.shred.specs.Shape as shape
use Rattle.shred.specs.Shape.{fields_of as shape_fields}
use Rattle.shred.specs.Views.{shape_view, field_views as shape_field_views}
use Rattle.schema_tree.specs.Schema.{tree_of}
use Rattle.parquet_schema.specs.Leaves.{leaves_in, leaves_of_fields}
use Rattle.parquet_schema.specs.Views.{leaf_views}
use Rattle.parquet_schema.proofs.PutLeaves.{shape-Struct}
use Rattle.parquet_schema.proofs.leaves.leaves_of_schema.Goals as goal

pub returns-in-Struct : goal.returns-in-Struct
returns-in-Struct g c =
    let told : shape_view c.args.shape.now ≡ shape.struct (shape_fields (shape_field_views c.in-Struct.shapes.items)) = ap shape_view c.in-Struct.is ∙ shape-Struct c.in-Struct.shapes in
    rw (told, ← c.deref.ensures.value, ← c.fields.ensures) c.leaves_of.ensures
