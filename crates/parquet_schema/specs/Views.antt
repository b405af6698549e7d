-- What the types of the code stand for.
use Rattle.std.specs.Prelude.{ℕ, List, map, string_bytes}
use Rattle.parquet_schema.specs.FileTree as trees
use Rattle.parquet_schema.specs.FileTree.{fields_of}
use Rattle.parquet_schema.specs.Leaves.{LeafIn}
use Rattle.parquet_schema.specs.declared.leaves.FileLeaf.{FileLeaf}
use Rattle.parquet_schema.specs.declared.leaves.Way.{Way}
use Rattle.parquet_schema.specs.declared.tree.FileNode.{FileNode, fold-FileNode}
use Rattle.parquet_schema.specs.declared.tree.FileNode.TheOpen.{FileNode-F, FileField-F}
use Rattle.parquet_schema.specs.declared.tree.FileField.{FileField, fold-FileField}

-- one level, with each node inside already seen
abbrev pub node_step : FileNode-F trees.FileNode trees.FileField → trees.FileNode
node_step (FileNode-F.Leaf physical_type) = trees.leaf physical_type
node_step (FileNode-F.Group v) = trees.group (fields_of v.items)

abbrev pub field_step : FileField-F trees.FileNode trees.FileField → trees.FileField
field_step f = record { name = f.name.items; optional = f.optional; node = f.node }

abbrev pub node_view : FileNode → trees.FileNode
node_view = fold-FileNode trees.FileNode trees.FileField node_step field_step

abbrev pub field_view : FileField → trees.FileField
field_view = fold-FileField trees.FileNode trees.FileField node_step field_step

abbrev pub field_views : List FileField → List trees.FileField
field_views fs = map field_view fs

abbrev pub leaf_view : FileLeaf → LeafIn
leaf_view l = record { names = map string_bytes l.names.items; leaf_type = l.leaf_type; nullable = l.nullable.items }

abbrev pub leaf_views : List FileLeaf → List LeafIn
leaf_views ls = map leaf_view ls

-- the names on a way
abbrev pub way_names : Way → List (List ℕ)
way_names way = map (λ name. name.now) way.names.items
