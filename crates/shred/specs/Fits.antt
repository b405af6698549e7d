-- The rows of a shape.
use Rattle.std.specs.Prelude.{◌≡◌, Bool, true, false}
use Rattle.row_core.specs.Rows.{Value, Values, null, structure, no_values, value}
use Rattle.shred.specs.Shape.{Shape, leaf, struct, Fields, no_fields, field}

-- a value that a leaf may hold
abbrev pub is_plain : Value → Bool
is_plain null = false
is_plain (structure vs) = false
is_plain _ = true

-- a value of a field: a null only where it may be null
abbrev pub FitsField : Bool → (Value → Type 0) → Value → Type 0
FitsField optional Inside null = optional ≡ true
FitsField optional Inside v = Inside v

-- A struct value has one value for each field.
abbrev mutual
  pub FitsShape : Shape → Value → Type 0
  FitsShape leaf v = is_plain v ≡ true
  FitsShape (struct fs) (structure vs) = FitFields fs vs
  FitsShape (struct fs) _ = ⊥

  pub FitFields : Fields → Values → Type 0
  FitFields no_fields no_values = Unit {0}
  FitFields (field name optional s fs) (value v vs) = FitsField optional (FitsShape s) v × FitFields fs vs
  FitFields _ _ = ⊥
