-- The shape of a schema, level by level.
use Rattle.std.proofs.Common.{◌≡◌, List, [], ◌∷◌, map, Vec, Global, refl, ap, rules}
use Rattle.schema_tree.specs.Tree as tree
use Rattle.schema_tree.specs.Tree.{fields_of as tree_fields}
use Rattle.schema_tree.specs.View.{view as node_view, field_view as column_view, field_views as column_views}
use Rattle.schema_tree.specs.declared.node.Node.{the_lemmas as node_lemmas}
use Rattle.schema_tree.specs.declared.node.Node.TheVariants as nodes
use Rattle.schema_tree.specs.declared.node.Field.{Field as Column}
use Rattle.shred.specs.Shape as specs
use Rattle.shred.specs.Shape.{fields_of, field, field_of, shapes_of}
use Rattle.shred.specs.Views.{shape_view, field_views}
use Rattle.shred.specs.declared.shapes.Shape.{the_lemmas}
use Rattle.shred.specs.declared.shapes.Shape.TheVariants as shapes
use Rattle.shred.specs.declared.shapes.ShapeField.{ShapeField}

pub shape-Struct : (v : Vec ShapeField Global) → shape_view (shapes.Struct v) ≡ specs.struct (fields_of (field_views v.items))
shape-Struct v = search (rules, the_lemmas)

pub node-Struct : {A : Type 0} (v : Vec (Column A) A) → node_view (nodes.Struct v) ≡ tree.struct (tree_fields (column_views v.items))
node-Struct v = search (rules, node_lemmas)

-- the shapes of fields, one after another
pub shapes_each : {A : Type 0} (fs : List (Column A)) → fields_of (map (λ f. field_of (column_view f)) fs) ≡ shapes_of (tree_fields (column_views fs))
shapes_each [] = refl
shapes_each (f ∷ fs) = ap (λ gs. field (field_of (column_view f)).name (field_of (column_view f)).optional (field_of (column_view f)).shape gs) (shapes_each fs)
