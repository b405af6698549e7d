-- The tree that a `Node` stands for.
use Rattle.std.specs.Prelude.{List, map, string_bytes}
pub use Rattle.field_metadata.specs.View.{metadata_of}
use Rattle.schema_tree.specs.Tree as tree
use Rattle.schema_tree.specs.Tree.{Tree, Column, fields_of}
use Rattle.schema_tree.specs.declared.node.Node.{Node, fold-Node}
use Rattle.schema_tree.specs.declared.node.Node.TheOpen.{Node-F, Field-F}
use Rattle.schema_tree.specs.declared.node.Field.{Field, fold-Field}

-- one level, with each type inside already seen as its tree
abbrev pub view_step : {A : Type 0} → Node-F A Tree Column → Tree
view_step (Node-F.Leaf p) = tree.leaf p
view_step (Node-F.Struct v) = tree.struct (fields_of v.items)
view_step (Node-F.Array element nullable) = tree.array element.value nullable
view_step (Node-F.Map key value nullable) = tree.map key.value value.value nullable

abbrev pub field_step : {A : Type 0} → Field-F A Tree Column → Column
field_step f = record { name = string_bytes f.name; data_type = f.data_type; nullable = f.nullable; metadata = metadata_of f.metadata }

abbrev pub view : {A : Type 0} → Node A → Tree
view {A = A} = fold-Node A Tree Column view_step field_step

abbrev pub field_view : {A : Type 0} → Field A → Column
field_view {A = A} = fold-Field A Tree Column view_step field_step

abbrev pub field_views : {A : Type 0} → List (Field A) → List Column
field_views fs = map field_view fs
