-- The primitive types and their names (Delta PROTOCOL.md, "Primitive Types").
use Rattle.std.specs.Prelude.{ℕ, ◌+◌, ◌-◌, ◌*◌, ◌==◌, ◌&&◌, List, [], ◌∷◌, ◌++◌, drop, Bool, true, nat_eq, nat_le, if◌then◌else◌, bytes_eq, codes, Option, Some, None, option_map}
use Rattle.std.specs.Fmt.{decimal}
use Rattle.std.specs.List.{starts_with, before_first, after_first}
use Rattle.outcomes.specs.Options.{◌>>=◌}
use Rattle.schema_tree.specs.declared.primitive.Primitive.{Primitive}
use Rattle.schema_tree.specs.declared.primitive.Primitive.TheVariants.{String, Long, Integer, Short, Byte, Boolean, Binary, Date, Timestamp, Float, Double, Decimal}

-- the name that a schema's text has for the type
abbrev pub primitive_name : Primitive → List ℕ
primitive_name String = codes "string"
primitive_name Long = codes "long"
primitive_name Integer = codes "integer"
primitive_name Short = codes "short"
primitive_name Byte = codes "byte"
primitive_name Boolean = codes "boolean"
primitive_name Binary = codes "binary"
primitive_name Date = codes "date"
primitive_name Timestamp = codes "timestamp"
primitive_name Float = codes "float"
primitive_name Double = codes "double"
primitive_name (Decimal precision scale) = codes "decimal(" ++ (decimal precision ++ (codes "," ++ (decimal scale ++ codes ")")))

-- a decimal has 1 to 38 digits, of which at most all stand behind the point
abbrev pub is_decimal : ℕ → ℕ → Bool
is_decimal precision scale = nat_le 1 precision && nat_le precision 38 && nat_le scale precision

-- a type that a schema may have
abbrev pub is_primitive : Primitive → Bool
is_primitive String = true
is_primitive Long = true
is_primitive Integer = true
is_primitive Short = true
is_primitive Byte = true
is_primitive Boolean = true
is_primitive Binary = true
is_primitive Date = true
is_primitive Timestamp = true
is_primitive Float = true
is_primitive Double = true
is_primitive (Decimal precision scale) = is_decimal precision scale

-- ---- decimals by name

abbrev pub digit : ℕ → Option ℕ
digit b = if nat_le 48 b && nat_le b 57 then Some (b - 48) else None

-- a plain number below 100: no sign, no space, no 0 before another digit
abbrev pub plain_number : List ℕ → Option ℕ
plain_number [] = None
plain_number (a ∷ []) = digit a
plain_number (a ∷ b ∷ []) = if a == 48 then None else (digit a >>= λ m. digit b >>= λ n. Some (m * 10 + n))
plain_number (a ∷ b ∷ c ∷ rest) = None

-- the text before the bracket that closes it
abbrev pub before_bracket : List ℕ → Option (List ℕ)
before_bracket [] = None
before_bracket (b ∷ []) = if b == 41 then Some [] else None
before_bracket (b ∷ c ∷ rest) = option_map (λ text. b ∷ text) (before_bracket (c ∷ rest))

abbrev pub decimal_type : ℕ → ℕ → Option Primitive
decimal_type precision scale = if is_decimal precision scale then Some (Decimal precision scale) else None

-- the decimal that `p,s)` is the rest of the name of
unfoldable pub decimal_in : List ℕ → Option Primitive
decimal_in text = do
  precision ← plain_number (before_first (λ b. b == 44) text)
  inside ← before_bracket (after_first (λ b. b == 44) text)
  scale ← plain_number inside
  decimal_type precision scale

unfoldable pub decimal_of : List ℕ → Option Primitive
decimal_of name = if starts_with nat_eq name (codes "decimal(") then decimal_in (drop 8 name) else None

-- the type of that name
unfoldable pub primitive_of : List ℕ → Option Primitive
primitive_of name =
    if bytes_eq name (codes "string") then Some String else
    (if bytes_eq name (codes "long") then Some Long else
    (if bytes_eq name (codes "integer") then Some Integer else
    (if bytes_eq name (codes "short") then Some Short else
    (if bytes_eq name (codes "byte") then Some Byte else
    (if bytes_eq name (codes "boolean") then Some Boolean else
    (if bytes_eq name (codes "binary") then Some Binary else
    (if bytes_eq name (codes "date") then Some Date else
    (if bytes_eq name (codes "timestamp") then Some Timestamp else
    (if bytes_eq name (codes "float") then Some Float else
    (if bytes_eq name (codes "double") then Some Double else
    decimal_of name))))))))))
