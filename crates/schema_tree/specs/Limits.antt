-- The limits of a table's type.
use Rattle.std.specs.Prelude.{◌≡◌, ℕ, suc, ◌+◌, ◌≤◌, ◌||◌, ◌&&◌, max, List, Bool, true, false, not, bytes_eq, is_some}
use Rattle.serde_json.specs.Data.{depth}
use Rattle.serde_json.specs.Find.{as_object}
use Rattle.serde_json.specs.Read.{max_depth}
use Rattle.schema_tree.specs.Primitives.{is_primitive}
use Rattle.schema_tree.specs.Printing.{data_of}
use Rattle.schema_tree.specs.Tree.{Tree, leaf, struct, array, map, Fields, no_fields, field}

-- How many types stand below one another, the outermost not counted: a field of the root is at depth 1.
abbrev mutual
  pub levels : Tree → ℕ
  levels (leaf p) = 0
  levels (struct fs) = suc (levels_of_fields fs)
  levels (array t nullable) = suc (levels t)
  levels (map k v nullable) = suc (max (levels k) (levels v))

  pub levels_of_fields : Fields → ℕ
  levels_of_fields no_fields = 0
  levels_of_fields (field name t nullable metadata fs) = max (levels t) (levels_of_fields fs)

-- how many types there are: each is one, with those inside it
abbrev mutual
  pub nodes : Tree → ℕ
  nodes (leaf p) = 1
  nodes (struct fs) = suc (nodes_of_fields fs)
  nodes (array t nullable) = suc (nodes t)
  nodes (map k v nullable) = suc (nodes k + nodes v)

  pub nodes_of_fields : Fields → ℕ
  nodes_of_fields no_fields = 0
  nodes_of_fields (field name t nullable metadata fs) = nodes t + nodes_of_fields fs

-- how many primitive types there are
abbrev mutual
  pub leaf_count : Tree → ℕ
  leaf_count (leaf p) = 1
  leaf_count (struct fs) = leaf_count_of_fields fs
  leaf_count (array t nullable) = leaf_count t
  leaf_count (map k v nullable) = leaf_count k + leaf_count v

  pub leaf_count_of_fields : Fields → ℕ
  leaf_count_of_fields no_fields = 0
  leaf_count_of_fields (field name t nullable metadata fs) = leaf_count t + leaf_count_of_fields fs

abbrev pub has_field : Fields → Bool
has_field no_fields = false
has_field (field name t nullable metadata fs) = true

-- one of the fields has this name
abbrev pub is_named : List ℕ → Fields → Bool
is_named name no_fields = false
is_named name (field other t nullable metadata fs) = bytes_eq name other || is_named name fs

-- Each struct has a field, the names in a struct are distinct, decimals are in range, and metadata is an object.
abbrev mutual
  pub is_sound : Tree → Bool
  is_sound (leaf p) = is_primitive p
  is_sound (struct fs) = has_field fs && are_sound fs
  is_sound (array t nullable) = is_sound t
  is_sound (map k v nullable) = is_sound k && is_sound v

  pub are_sound : Fields → Bool
  are_sound no_fields = true
  are_sound (field name t nullable metadata fs) = not (is_named name fs) && is_some (as_object metadata) && is_sound t && are_sound fs

-- The type of a table: at most 16 levels, 1,024 types and 256 leaves; and its JSON can be read, metadata within.
pub record IsWithinLimits (t : Tree) : Type 0 where
  pub sound : is_sound t ≡ true
  pub levels_fit : levels t ≤ 16
  pub nodes_fit : nodes t ≤ 1024
  pub leaves_fit : leaf_count t ≤ 256
  pub nests : depth (data_of t) ≤ max_depth
