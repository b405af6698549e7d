-- The values of a type (Delta PROTOCOL.md, "Primitive Types").
use Rattle.std.specs.Prelude.{◌≡◌, ℕ, ◌^◌, ℤ, pos, negsuc, List, length, Bool, true, false, ◌&&◌, ◌||◌, nat_le, nat_lt, None}
use Rattle.std.specs.List.{list_all}
use Rattle.schema_tree.specs.Tree as tree
use Rattle.schema_tree.specs.Tree.{Tree, Fields, no_fields, field}
use Rattle.schema_tree.specs.declared.primitive.Primitive.{Primitive}
use Rattle.schema_tree.specs.declared.primitive.Primitive.TheVariants.{String, Long, Integer, Short, Byte, Boolean, Binary, Date}
use Rattle.row_core.specs.Rows.{Value, Values, null, truth, whole, text, bytes, structure, no_values, value}
use Rattle.row_core.specs.Unsupported.{unsupported}

-- the most bytes of a text, and of bytes: 1 MiB
abbrev pub max_bytes : ℕ
max_bytes = 1048576

abbrev pub is_short : List ℕ → Bool
is_short s = nat_le (length s) max_bytes

-- from -limit to limit - 1
abbrev pub is_within : ℕ → ℤ → Bool
is_within limit (pos n) = nat_lt n limit
is_within limit (negsuc n) = nat_lt n limit

abbrev pub is_byte : ℕ → Bool
is_byte b = nat_lt b 256

-- the values of each primitive type
abbrev pub is_leaf_value : Primitive → Value → Bool
is_leaf_value Boolean (truth b) = true
is_leaf_value Byte (whole z) = is_within (2 ^ 7) z
is_leaf_value Short (whole z) = is_within (2 ^ 15) z
is_leaf_value Integer (whole z) = is_within (2 ^ 31) z
is_leaf_value Long (whole z) = is_within (2 ^ 63) z
-- a day, counted from 1970-01-01
is_leaf_value Date (whole z) = is_within (2 ^ 31) z
is_leaf_value String (text s) = is_short s
is_leaf_value Binary (bytes s) = is_short s && list_all is_byte s
is_leaf_value p v = false

abbrev pub is_null : Value → Bool
is_null null = true
is_null v = false

-- A struct has one value for each field, null only where the field may be null.
abbrev mutual
  pub is_value : Tree → Value → Bool
  is_value (tree.leaf p) v = is_leaf_value p v
  is_value (tree.struct fs) (structure vs) = are_values fs vs
  is_value t v = false

  pub are_values : Fields → Values → Bool
  are_values no_fields no_values = true
  are_values (field name t nullable metadata fs) (value v vs) = (nullable && is_null v || is_value t v) && are_values fs vs
  are_values fs vs = false

-- A row of a table: of a type with an array, a map or a type without values there is none.
pub record Conforms (t : Tree) (v : Value) : Type 0 where
  pub supported : unsupported t ≡ None
  pub fits : is_value t v ≡ true
