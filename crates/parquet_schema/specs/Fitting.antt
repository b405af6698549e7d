-- Whether a file has a table's columns: the same names in any order, the same physical types, and no other. Whether a
-- node may be null is the file's own.
use Rattle.std.specs.Prelude.{ℕ, suc, ◌==◌, ◌&&◌, ◌||◌, not, ℤ, List, Bool, true, false, bytes_eq, option_map, Option, Some, None, if◌then◌else◌}
use Rattle.std.specs.Ordering.{int_eq}
use Rattle.outcomes.specs.Options.{◌>>=◌}
use Rattle.schema_tree.specs.Tree as tree
use Rattle.schema_tree.specs.Tree.{Tree}
use Rattle.schema_tree.specs.declared.primitive.Primitive.{Primitive}
use Rattle.shred.specs.Shape as shapes
use Rattle.shred.specs.Shape.{Shape}
use Rattle.parquet_footer.specs.Metadata.{SchemaElement}
use Rattle.parquet_schema.specs.FileTree.{FileNode, leaf, group, FileFields, no_fields, field, FileField, fields_of, count_of}
use Rattle.parquet_schema.specs.Reading.{file_fields}
use Rattle.page_cells.specs.Types.{leaf_type, physical_type, type_number}

-- the number of the physical type of a table's leaf, if a file can hold its values
abbrev pub physical_number : Primitive → Option ℤ
physical_number p = option_map (λ t. type_number (physical_type t)) (leaf_type p)

abbrev pub is_number : ℤ → Option ℤ → Bool
is_number z None = false
is_number z (Some y) = int_eq y z

-- whether the fields have this name
abbrev pub has_name : List ℕ → FileFields → Bool
has_name name no_fields = false
has_name name (field n optional node fs) = bytes_eq n name || has_name name fs

-- no two fields have one name
abbrev pub are_distinct : FileFields → Bool
are_distinct no_fields = true
are_distinct (field name optional node fs) = not (has_name name fs) && are_distinct fs

-- the first field of this name
abbrev pub field_named : List ℕ → FileFields → Option FileField
field_named name no_fields = None
field_named name (field n optional node fs) = if bytes_eq n name then Some (record { name = n; optional = optional; node = node }) else field_named name fs

abbrev pub count_of_columns : tree.Fields → ℕ
count_of_columns tree.no_fields = 0
count_of_columns (tree.field name t nullable metadata fs) = suc (count_of_columns fs)

-- as many fields as the table has, no two of one name
abbrev pub may_fit : tree.Fields → FileFields → Bool
may_fit fs gs = count_of_columns fs == count_of gs && are_distinct gs

-- The shape that a type's values have in the file: the table's fields in the table's order, with the file's flags.
abbrev mutual
  pub fitted : Tree → FileNode → Option Shape
  fitted (tree.leaf p) (leaf number) = if is_number number (physical_number p) then Some shapes.leaf else None
  fitted (tree.struct fs) (group gs) = if may_fit fs gs then option_map shapes.struct (fitted_fields fs gs) else None
  fitted t node = None

  pub fitted_fields : tree.Fields → FileFields → Option shapes.Fields
  fitted_fields tree.no_fields gs = Some shapes.no_fields
  fitted_fields (tree.field name t nullable metadata fs) gs =
      field_named name gs >>= λ g. fitted t g.node >>= λ s. option_map (λ ss. shapes.field name g.optional s ss) (fitted_fields fs gs)

-- the shape that a table's rows have in a file with this list
abbrev pub fitted_list : Tree → List SchemaElement → Option Shape
fitted_list t es = file_fields es >>= λ fs. fitted t (group (fields_of fs))

-- the shape of a column in a group of the file
abbrev pub fitted_column : tree.Column → FileFields → Option shapes.Field
fitted_column c gs = field_named c.name gs >>= λ g. option_map (λ s. record { name = c.name; optional = g.optional; shape = s }) (fitted c.data_type g.node)

-- ---- the table's own tree

-- the tree of a table's columns with the table's own flags, in its order
abbrev mutual
  pub file_node : Tree → Option FileNode
  file_node (tree.leaf p) = option_map leaf (physical_number p)
  file_node (tree.struct fs) = option_map group (file_fields_of fs)
  file_node t = None

  pub file_fields_of : tree.Fields → Option FileFields
  file_fields_of tree.no_fields = Some no_fields
  file_fields_of (tree.field name t nullable metadata fs) = file_node t >>= λ node. option_map (λ gs. field name nullable node gs) (file_fields_of fs)
