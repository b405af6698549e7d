-- The leaves of a table as a file has them, in the table's order, depth first.
use Rattle.std.specs.Prelude.{List, [], ◌∷◌, ◌++◌, ℕ, map, Bool, true, false, Option, Some, None}
use Rattle.schema_tree.specs.Tree as tree
use Rattle.schema_tree.specs.Tree.{Tree}
use Rattle.shred.specs.Shape as shapes
use Rattle.shred.specs.Shape.{Shape}
use Rattle.page_cells.specs.Types.{leaf_type}
use Rattle.page_cells.specs.declared.types.LeafType.{LeafType}

-- A leaf: the names on the way to it, its type, and for each node on the way that may be null in the file, from the top,
-- whether the table lets it be null.
pub record LeafIn : Type 0 where
  pub names : List (List ℕ)
  pub leaf_type : LeafType
  pub nullable : List Bool

-- the table's flag of a node, where it may be null in the file
abbrev pub flag_of : (optional nullable : Bool) → List Bool
flag_of true nullable = nullable ∷ []
flag_of false nullable = []

-- the leaf as it is seen from outside the field that holds it
abbrev pub leaf_inside : List ℕ → (optional nullable : Bool) → LeafIn → LeafIn
leaf_inside name optional nullable l = record { names = name ∷ l.names; leaf_type = l.leaf_type; nullable = flag_of optional nullable ++ l.nullable }

abbrev pub bare_leaf : Option LeafType → List LeafIn
bare_leaf None = []
bare_leaf (Some type) = record { names = []; leaf_type = type; nullable = [] } ∷ []

abbrev mutual
  pub leaves_in : Tree → Shape → List LeafIn
  leaves_in (tree.leaf p) shapes.leaf = bare_leaf (leaf_type p)
  leaves_in (tree.struct fs) (shapes.struct ss) = leaves_of_fields fs ss
  leaves_in t s = []

  pub leaves_of_fields : tree.Fields → shapes.Fields → List LeafIn
  leaves_of_fields (tree.field name t nullable metadata fs) (shapes.field n optional s ss) = map (leaf_inside name optional nullable) (leaves_in t s) ++ leaves_of_fields fs ss
  leaves_of_fields _ _ = []

-- the leaves of a field
abbrev pub field_leaves : tree.Column → shapes.Field → List LeafIn
field_leaves c f = map (leaf_inside c.name f.optional c.nullable) (leaves_in c.data_type f.shape)

-- the leaves as they are seen from the beginning of a way
abbrev pub leaves_under : List (List ℕ) → List Bool → List LeafIn → List LeafIn
leaves_under names nullable leaves = map (λ l. record { names = names ++ l.names; leaf_type = l.leaf_type; nullable = nullable ++ l.nullable }) leaves
