-- Values that stand in the bytes by PLAIN are read, whatever follows them.
use Rattle.std.proofs.Common.{◌≡◌, ℕ, ◌^◌, ◌<◌, ℤ, pos, negsuc, true, false, ltb, List, ◌++◌, length, All, Ok, refl, sym, ap, arith, append_assoc, length-append}
use Rattle.std.specs.Prelude.{FitsSigned}
use Rattle.std.specs.Int.{Width, w32, w64, byte_len, from_le_bytes, to_le_bytes, cast_unsigned}
use Rattle.std.proofs.lemmas.Bool.{le-ltb}
use Rattle.std.proofs.lemmas.List.{take_at, drop_at}
use Rattle.std.proofs.lemmas.List.Elements.{All-head, All-tail}
use Rattle.std.proofs.lemmas.Nat.{from_le_bytes-to_le_bytes_4}
use Rattle.lake_bytes.specs.LittleEndian.{little_at}
use Rattle.lake_bytes.proofs.Callers.{below_64, eight, signed_little_again}
use Rattle.row_core.specs.Conforms.{is_leaf_value}
use Rattle.row_core.specs.Rows.{Value, whole, text, bytes}
use Rattle.page_cells.specs.Plain.{AreValues, IsPlain, IsValue, behind_length, binary_at, bytes_for_bits, content_at, int32_at, int64_at, no_value, plain_at, text_at, truths_at, value, value_at, values_at}
use Rattle.page_cells.specs.Types.{physical_type, primitive_of}
use Rattle.page_cells.specs.declared.types.LeafType.{LeafType}
use Rattle.page_cells.specs.declared.types.LeafType.TheVariants as leaf
use Rattle.page_cells.specs.declared.types.PhysicalType.TheVariants.{Int32, Int64, ByteArray}
use Rattle.page_cells.proofs.FoundSteps.{taken_stand}

-- ---- numbers

number_stands : (w : Width) (number : ℕ) (rest : List ℕ) → length (to_le_bytes w number) ≡ byte_len w
    → from_le_bytes w (to_le_bytes w number) ≡ number → little_at w (to_le_bytes w number ++ rest) ≡ Ok (number, rest)
unfolding little_at
number_stands w number rest many again =
    let spelled = to_le_bytes w number in
    let long : ltb (length (spelled ++ rest)) (byte_len w) ≡ false =
    le-ltb _ _ (omega (arith, many, length-append spelled rest)) in
    rw (long, take_at spelled rest (byte_len w) many, drop_at spelled rest (byte_len w) many, again) refl

pub little_stands : (number : ℕ) (rest : List ℕ) → number < 2 ^ 32
    → little_at w32 (to_le_bytes w32 number ++ rest) ≡ Ok (number, rest)
little_stands number rest fits = number_stands w32 number rest refl (from_le_bytes-to_le_bytes_4 number fits)

below_32 : (z : ℤ) → FitsSigned w32 z → cast_unsigned w32 z < 2 ^ 32
below_32 (pos n) h = omega arith
below_32 (negsuc n) h = omega arith

-- ---- one value

int32_stands : (given : List ℕ) (v : Value) (rest : List ℕ) → IsValue Int32 given v
    → int32_at (given ++ rest) ≡ Ok (v, rest)
unfolding int32_at
int32_stands given (whole z) rest s =
    rw (
      s.1,
      signed_little_again w32 z rest s.0 (record
          { len = refl; again = from_le_bytes-to_le_bytes_4 (cast_unsigned w32 z) (below_32 z s.0) }),
    ) refl
int32_stands given v rest s = absurd s

int64_stands : (given : List ℕ) (v : Value) (rest : List ℕ) → IsValue Int64 given v
    → int64_at (given ++ rest) ≡ Ok (v, rest)
unfolding int64_at
int64_stands given (whole z) rest s =
    rw (s.1, signed_little_again w64 z rest s.0 (eight (cast_unsigned w64 z) (below_64 z s.0))) refl
int64_stands given v rest s = absurd s

content_stands : (content rest : List ℕ) → length content < 2 ^ 32
    → content_at (behind_length content ++ rest) ≡ Ok (content, rest)
unfolding content_at
content_stands content rest small =
    rw (
      append_assoc (to_le_bytes w32 (length content)) content rest,
      little_stands (length content) (content ++ rest)
          small,
    )
    (taken_stand (length content) content rest refl)

text_stands : (given : List ℕ) (v : Value) (rest : List ℕ) → IsValue ByteArray given v
    → is_leaf_value (primitive_of leaf.String) v ≡ true → text_at (given ++ rest) ≡ Ok (v, rest)
unfolding text_at
text_stands given (text s) rest h is = rw (h.1, content_stands s rest h.0) refl
text_stands given (bytes s) rest h is = absurd cc
text_stands given v rest h is = absurd h

binary_stands : (given : List ℕ) (v : Value) (rest : List ℕ) → IsValue ByteArray given v
    → is_leaf_value (primitive_of leaf.Binary) v ≡ true → binary_at (given ++ rest) ≡ Ok (v, rest)
unfolding binary_at
binary_stands given (bytes s) rest h is = rw (h.1, content_stands s rest h.0) refl
binary_stands given (text s) rest h is = absurd cc
binary_stands given v rest h is = absurd h

value_stands : (type : LeafType) (given : List ℕ) (v : Value) (rest : List ℕ) → IsValue (physical_type type) given v
    → is_leaf_value (primitive_of type) v ≡ true → value_at type (given ++ rest) ≡ Ok (v, rest)
value_stands leaf.Boolean given v rest h is = absurd h
value_stands leaf.Byte given v rest h is = int32_stands given v rest h
value_stands leaf.Short given v rest h is = int32_stands given v rest h
value_stands leaf.Integer given v rest h is = int32_stands given v rest h
value_stands leaf.Date given v rest h is = int32_stands given v rest h
value_stands leaf.Long given v rest h is = int64_stands given v rest h
value_stands leaf.String given v rest h is = text_stands given v rest h is
value_stands leaf.Binary given v rest h is = binary_stands given v rest h is

-- ---- values

abbrev IsOf : LeafType → Value → Type 0
IsOf type v = is_leaf_value (primitive_of type) v ≡ true

values_stand : (type : LeafType) (front : List ℕ) (vs : List Value) (rest : List ℕ)
    → AreValues (physical_type type) front vs
    → All (IsOf type) vs → values_at type (length vs) (front ++ rest) ≡ Ok (vs, rest)
unfolding values_at
values_stand type front vs rest no_value of_type = refl
values_stand type front vs rest (value v more first others one are) of_type =
    rw (
      append_assoc first others rest,
      value_stands type first v (others ++ rest) one (All-head (IsOf type) v more of_type),
      values_stand type others more rest are (All-tail (IsOf type) v more of_type),
    ) refl

pub plain_stands : (type : LeafType) (front : List ℕ) (vs : List Value) (rest : List ℕ)
    → IsPlain (physical_type type) front vs
    → All (λ v. is_leaf_value (primitive_of type) v ≡ true) vs
    → plain_at type (length vs) (front ++ rest) ≡ Ok (vs, rest)
unfolding truths_at
plain_stands leaf.Boolean front vs rest h of_type =
    rw (taken_stand (bytes_for_bits (length vs)) front rest h.size) (ap (λ (t : List Value). Ok (t, rest)) (sym h.bits))
plain_stands type front vs rest h of_type = values_stand type front vs rest h of_type
