-- The shape of a row: the names of its fields, and which of them may be null (Apache Parquet, "Nested Encoding",
-- without repeated fields).
use Rattle.std.specs.Prelude.{ℕ, List, [], ◌∷◌, Bool}
use Rattle.schema_tree.specs.Tree as tree
use Rattle.schema_tree.specs.Tree.{Tree, Column}

mutual
  pub data Shape : Type 0 where
    leaf : Shape
    struct : Fields → Shape

  -- each field's name, whether it may be null, and its shape
  pub data Fields : Type 0 where
    no_fields : Fields
    field : List ℕ → Bool → Shape → Fields → Fields

-- a field of a struct
pub record Field : Type 0 where
  pub name : List ℕ
  pub optional : Bool
  pub shape : Shape

-- a plain list as the fields of a struct
abbrev pub fields_of : List Field → Fields
fields_of [] = no_fields
fields_of (f ∷ fs) = field f.name f.optional f.shape (fields_of fs)

-- The shape of a table's rows. Only structs make paths: an array or a map stands as one leaf.
abbrev mutual
  pub shape_of : Tree → Shape
  shape_of (tree.leaf p) = leaf
  shape_of (tree.struct fs) = struct (shapes_of fs)
  shape_of (tree.array t nullable) = leaf
  shape_of (tree.map k v nullable) = leaf

  pub shapes_of : tree.Fields → Fields
  shapes_of tree.no_fields = no_fields
  shapes_of (tree.field name t nullable metadata fs) = field name nullable (shape_of t) (shapes_of fs)

-- the shape of a table's column
abbrev pub field_of : Column → Field
field_of c = record { name = c.name; optional = c.nullable; shape = shape_of c.data_type }

-- each struct has a field
abbrev mutual
  pub HasFields : Shape → Type 0
  HasFields leaf = Unit {0}
  HasFields (struct no_fields) = ⊥
  HasFields (struct (field name optional s fs)) = HasFields s × HaveFields fs

  pub HaveFields : Fields → Type 0
  HaveFields no_fields = Unit {0}
  HaveFields (field name optional s fs) = HasFields s × HaveFields fs
