-- What a `Schema` and its leaves stand for.
use Rattle.std.specs.Prelude.{List, map}
use Rattle.schema_tree.specs.Tree.{Tree, struct, Column, fields_of}
use Rattle.schema_tree.specs.View.{field_views}
use Rattle.schema_tree.specs.Leaves.{LeafPath}
use Rattle.schema_tree.specs.declared.schema.Schema.{Schema}
use Rattle.schema_tree.specs.declared.steps.Leaf.{Leaf}

-- the top fields
abbrev pub columns_of : {A : Type 0} → Schema A → List Column
columns_of s = field_views s.fields.items

-- the type of the table, a struct
abbrev pub tree_of : {A : Type 0} → Schema A → Tree
tree_of s = struct (fields_of (columns_of s))

abbrev pub leaf_view : {A : Type 0} → Leaf A → LeafPath
leaf_view leaf = record { names = map (λ s. s.now) leaf.names.items; nullables = leaf.nullables }
