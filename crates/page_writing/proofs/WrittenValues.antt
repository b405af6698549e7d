-- What is written for values of a leaf's type is these values in PLAIN.
use Rattle.std.proofs.Common.{◌≡◌, ℕ, suc, ◌+◌, ◌*◌, ◌/◌, ◌%◌, ◌<◌, ◌≤◌, ◌^◌, ℤ, pos, negsuc, List, [], ◌∷◌, length, map, take, All, Bool, true, false, refl, sym, ap, ◌∙◌, arith, FitsSigned, w32, w64}
use Rattle.std.specs.List.{AllByRecursion, flat_map, list_all}
use Rattle.std.proofs.Math.Nat.{pow-le-pow_right}
use Rattle.std.proofs.Math.Seq.{take-length}
use Rattle.std.proofs.lemmas.Bool.{and_parts, leb-true, lt-ltb, ltb-true}
use Rattle.std.proofs.lemmas.Int.{ints}
use Rattle.std.proofs.lemmas.List.Elements.{recursion_from_All}
use Rattle.lake_bytes.specs.Hybrid.{unpacked}
use Rattle.lake_bytes.proofs.Callers.{length-low_bytes, low_first-low_bytes, power_of_bytes}
use Rattle.schema_tree.specs.declared.primitive.Primitive.TheVariants as primitive
use Rattle.row_core.specs.Conforms.{is_byte, is_leaf_value, is_short, is_within}
use Rattle.row_core.specs.Rows.{Value, truth, whole, text, bytes}
use Rattle.page_cells.specs.Plain.{AreBits, AreValues, IsPlain, IsValue, bytes_for_bits, no_value, truth_of, value}
use Rattle.page_cells.specs.Types.{physical_type, primitive_of}
use Rattle.page_writing.specs.Writing.{packed_bits, plain_bytes, value_bytes}
use Rattle.page_cells.specs.declared.types.LeafType.{LeafType}
use Rattle.page_cells.specs.declared.types.LeafType.TheVariants.{Boolean, Byte, Short, Integer, Long, Date, String, Binary}
use Rattle.page_cells.specs.declared.types.PhysicalType.{PhysicalType}
use Rattle.page_cells.specs.declared.types.PhysicalType.TheVariants as physical
use Rattle.page_writing.proofs.WrittenBits.{packed_bits-below}

-- ---- values of whole bytes

-- what is written for a value is that value
abbrev IsWritten : PhysicalType → Value → Type 0
IsWritten type v = IsValue type (value_bytes type v) v

below : (limit : ℕ) (z : ℤ) → limit ≤ 2 ^ 31 → is_within limit z ≡ true → is_within (2 ^ 31) z ≡ true
below limit (pos n) narrow h = lt-ltb n (2 ^ 31) (omega (arith, ltb-true n limit h))
below limit (negsuc n) narrow h = lt-ltb n (2 ^ 31) (omega (arith, ltb-true n limit h))

fits_32 : (z : ℤ) → is_within (2 ^ 31) z ≡ true → FitsSigned w32 z
fits_32 (pos n) h = omega (arith, ints, ltb-true n (2 ^ 31) h)
fits_32 (negsuc n) h = omega (arith, ints, ltb-true n (2 ^ 31) h)

fits_64 : (z : ℤ) → is_within (2 ^ 63) z ≡ true → FitsSigned w64 z
fits_64 (pos n) h = omega (arith, ints, ltb-true n (2 ^ 63) h)
fits_64 (negsuc n) h = omega (arith, ints, ltb-true n (2 ^ 63) h)

int32_written : (limit : ℕ) (z : ℤ) → limit ≤ 2 ^ 31 → is_within limit z ≡ true → IsWritten physical.Int32 (whole z)
int32_written limit z narrow h =
    let within = below limit z narrow h in
    (fits_32 z within, rw within refl)

short_length : (s : List ℕ) → is_short s ≡ true → length s < 2 ^ 32
short_length s h = omega (arith, leb-true (length s) 1048576 h)

byte_written : (v : Value) → is_leaf_value primitive.Byte v ≡ true → IsWritten physical.Int32 v
byte_written (whole z) h = int32_written (2 ^ 7) z (omega arith) h
byte_written v h = absurd cc

short_written : (v : Value) → is_leaf_value primitive.Short v ≡ true → IsWritten physical.Int32 v
short_written (whole z) h = int32_written (2 ^ 15) z (omega arith) h
short_written v h = absurd cc

integer_written : (v : Value) → is_leaf_value primitive.Integer v ≡ true → IsWritten physical.Int32 v
integer_written (whole z) h = int32_written (2 ^ 31) z (omega arith) h
integer_written v h = absurd cc

date_written : (v : Value) → is_leaf_value primitive.Date v ≡ true → IsWritten physical.Int32 v
date_written (whole z) h = int32_written (2 ^ 31) z (omega arith) h
date_written v h = absurd cc

long_written : (v : Value) → is_leaf_value primitive.Long v ≡ true → IsWritten physical.Int64 v
long_written (whole z) h = (fits_64 z h, refl)
long_written v h = absurd cc

text_written : (v : Value) → is_leaf_value primitive.String v ≡ true → IsWritten physical.ByteArray v
text_written (text s) h = (short_length s h, refl)
text_written v h = absurd cc

binary_written : (v : Value) → is_leaf_value primitive.Binary v ≡ true → IsWritten physical.ByteArray v
binary_written (bytes s) h = (short_length s (and_parts (is_short s) (list_all is_byte s) h).0, refl)
binary_written v h = absurd cc

values_written : (type : PhysicalType) (test : Value → Bool) → ((v : Value) → test v ≡ true → IsWritten type v)
    → (values : List Value) → AllByRecursion (λ v. test v ≡ true) values
    → AreValues type (flat_map (value_bytes type) values) values
values_written type test one [] all = no_value
values_written type test one (v ∷ vs) all =
    value v vs (value_bytes type v) (flat_map (value_bytes type) vs) (one v all.0)
    (values_written type test one vs all.1)

-- ---- truth values

truth_again : (b : Bool) (vs : List Value) → AllByRecursion (λ v. is_leaf_value primitive.Boolean v ≡ true) vs
    → vs ≡ map truth_of (unpacked 1 (length vs) (packed_bits vs))
    → truth b ∷ vs ≡ map truth_of (unpacked 1 (suc (length vs)) (packed_bits (truth b ∷ vs)))
unfolding unpacked
truth_again true vs all others =
    let first : (1 + 2 * packed_bits vs) % 2 ≡ 1 = omega arith in
    let rest : (1 + 2 * packed_bits vs) / 2 ≡ packed_bits vs = omega arith in
    rw (first, rest) (ap (λ (t : List Value). truth true ∷ t) others)
truth_again false vs all others =
    let first : (0 + 2 * packed_bits vs) % 2 ≡ 0 = omega arith in
    let rest : (0 + 2 * packed_bits vs) / 2 ≡ packed_bits vs = omega arith in
    rw (first, rest) (ap (λ (t : List Value). truth false ∷ t) others)

truths_again : (values : List Value) → AllByRecursion (λ v. is_leaf_value primitive.Boolean v ≡ true) values
    → values ≡ map truth_of (unpacked 1 (length values) (packed_bits values))
unfolding unpacked
truths_again [] all = refl
truths_again (truth b ∷ vs) all = truth_again b vs all.1 (truths_again vs all.1)
truths_again (v ∷ vs) all = absurd (cc all.0)

bits_fit : (values : List Value) → packed_bits values < 256 ^ bytes_for_bits (length values)
bits_fit values =
    let count = length values in
    let below : packed_bits (take count values) < 2 ^ count = packed_bits-below count values in
    let all : take count values ≡ values = take-length values in
    let less : 2 ^ count ≤ 2 ^ (8 * bytes_for_bits count) =
    pow-le-pow_right {n = 2} (omega arith) {i = count} {j = 8 * bytes_for_bits count} (omega arith) in
    rw (power_of_bytes (bytes_for_bits count)) (omega (arith, ap packed_bits all))

truths_written : (values : List Value) → AllByRecursion (λ v. is_leaf_value primitive.Boolean v ≡ true) values
    → AreBits (plain_bytes physical.Boolean values) values
truths_written values all =
    let size = bytes_for_bits (length values) in
    let again = low_first-low_bytes size (packed_bits values) (bits_fit values) in
    record {
      size = length-low_bytes size (packed_bits values);
      bits = truths_again values all
          ∙ ap (λ (n : ℕ). map truth_of (unpacked 1 (length values) n)) (sym again);
    }

-- ---- values of a leaf

pub plain_written : (type : LeafType) (values : List Value)
    → All (λ v. is_leaf_value (primitive_of type) v ≡ true) values
    → IsPlain (physical_type type) (plain_bytes (physical_type type) values) values
plain_written type values all =
    by_type type (recursion_from_All (λ v. is_leaf_value (primitive_of type) v ≡ true) values all)
  where
    by_type : (type : LeafType) → AllByRecursion (λ v. is_leaf_value (primitive_of type) v ≡ true) values
        → IsPlain (physical_type type) (plain_bytes (physical_type type) values) values
    by_type Boolean all = truths_written values all
    by_type Byte all = values_written physical.Int32 (is_leaf_value primitive.Byte) byte_written values all
    by_type Short all = values_written physical.Int32 (is_leaf_value primitive.Short) short_written values all
    by_type Integer all = values_written physical.Int32 (is_leaf_value primitive.Integer) integer_written values all
    by_type Date all = values_written physical.Int32 (is_leaf_value primitive.Date) date_written values all
    by_type Long all = values_written physical.Int64 (is_leaf_value primitive.Long) long_written values all
    by_type String all = values_written physical.ByteArray (is_leaf_value primitive.String) text_written values all
    by_type Binary all = values_written physical.ByteArray (is_leaf_value primitive.Binary) binary_written values all
