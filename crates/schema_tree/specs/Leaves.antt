-- The leaves of a type, depth first.
use Rattle.std.specs.Prelude.{ℕ, ◌+◌, List, [], ◌∷◌, ◌++◌, map, Bool, if◌then◌else◌}
use Rattle.schema_tree.specs.Tree as tree
use Rattle.schema_tree.specs.Tree.{Tree, Fields, no_fields, field, Column}

-- A leaf: the names of the fields that lead to it, and how many of these may be null.
pub record LeafPath : Type 0 where
  pub names : List (List ℕ)
  pub nullables : ℕ

-- the leaf as it is seen from outside the field that holds it
abbrev pub leaf_inside : List ℕ → Bool → LeafPath → LeafPath
leaf_inside name nullable leaf = record { names = name ∷ leaf.names; nullables = (if nullable then 1 else 0) + leaf.nullables }

-- a leaf that no field leads to
abbrev pub bare_leaf : LeafPath
bare_leaf = record { names = []; nullables = 0 }

-- Only structs make paths: an array or a map has no rows, and stands as one leaf.
abbrev mutual
  pub leaves_of : Tree → List LeafPath
  leaves_of (tree.leaf p) = bare_leaf ∷ []
  leaves_of (tree.struct fs) = leaves_of_fields fs
  leaves_of (tree.array t nullable) = bare_leaf ∷ []
  leaves_of (tree.map k v nullable) = bare_leaf ∷ []

  pub leaves_of_fields : Fields → List LeafPath
  leaves_of_fields no_fields = []
  leaves_of_fields (field name t nullable metadata fs) = map (leaf_inside name nullable) (leaves_of t) ++ leaves_of_fields fs

-- the leaves of a field
abbrev pub leaves_of_column : Column → List LeafPath
leaves_of_column c = map (leaf_inside c.name c.nullable) (leaves_of c.data_type)
