-- The rows of a table: trees of values.
use Rattle.std.specs.Prelude.{ℕ, ℤ, List, [], ◌∷◌, Bool, true, false, ◌&&◌, bytes_eq}
use Rattle.std.specs.Ordering.{int_eq}

mutual
  pub data Value : Type 0 where
    null : Value
    truth : Bool → Value
    whole : ℤ → Value
    text : List ℕ → Value
    bytes : List ℕ → Value
    structure : Values → Value

  -- the values of a struct's fields, in the order of the schema
  pub data Values : Type 0 where
    no_values : Values
    value : Value → Values → Values

-- a row is a struct
abbrev pub Row : Type 0
Row = Value

-- a plain list as the values of a struct
abbrev pub values_of : List Value → Values
values_of [] = no_values
values_of (v ∷ vs) = value v (values_of vs)

-- whether two values are equal
abbrev mutual
  pub same : Value → Value → Bool
  same null null = true
  same (truth true) (truth true) = true
  same (truth false) (truth false) = true
  same (whole a) (whole b) = int_eq a b
  same (text a) (text b) = bytes_eq a b
  same (bytes a) (bytes b) = bytes_eq a b
  same (structure vs) (structure ws) = same_values vs ws
  same _ _ = false

  pub same_values : Values → Values → Bool
  same_values no_values no_values = true
  same_values (value v vs) (value w ws) = same v w && same_values vs ws
  same_values _ _ = false

-- whether two lists of rows are equal
abbrev pub same_rows : List Row → List Row → Bool
same_rows a b = same_values (values_of a) (values_of b)
