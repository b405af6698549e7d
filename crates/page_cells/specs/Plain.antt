-- Values in a page, by the encoding PLAIN (Apache Parquet, "Plain"): truth values of a bit each, the low bit of a byte
-- first; whole numbers of four and of eight bytes, the low byte first; texts and bytes behind their length in four bytes.
use Rattle.std.specs.Prelude.{◌≡◌, ℕ, zero, suc, ◌+◌, ◌/◌, ◌<◌, ◌^◌, ◌==◌, List, [], ◌∷◌, ◌++◌, length, map, FitsSigned, Result, Ok, Err}
use Rattle.std.specs.Int.{w32, w64, to_le_bytes, cast_unsigned}
use Rattle.lake_bytes.specs.LittleEndian.{little_at, signed_little_at}
use Rattle.lake_bytes.specs.Reading.{bytes_at}
use Rattle.outcomes.specs.Results.{◌>>=◌}
use Rattle.lake_bytes.specs.declared.fault.ByteFault.{ByteFault}
use Rattle.lake_bytes.specs.declared.fault.ByteFault.TheVariants.{Short}
use Rattle.lake_bytes.specs.Hybrid.{low_first, unpacked}
use Rattle.row_core.specs.Rows.{Value, truth, whole, text, bytes}
use Rattle.page_cells.specs.declared.types.LeafType.{LeafType}
use Rattle.page_cells.specs.declared.types.LeafType.TheVariants as leaf
use Rattle.page_cells.specs.declared.types.PhysicalType.{PhysicalType}
use Rattle.page_cells.specs.declared.types.PhysicalType.TheVariants.{Boolean, Int32, Int64, ByteArray}

-- what stands behind its length in four bytes
abbrev pub behind_length : List ℕ → List ℕ
behind_length content = to_le_bytes w32 (length content) ++ content

-- These bytes are one value that isn't a truth value.
abbrev pub IsValue : PhysicalType → List ℕ → Value → Type 0
IsValue Int32 spelled (whole z) = FitsSigned w32 z × (spelled ≡ to_le_bytes w32 (cast_unsigned w32 z))
IsValue Int64 spelled (whole z) = FitsSigned w64 z × (spelled ≡ to_le_bytes w64 (cast_unsigned w64 z))
IsValue ByteArray spelled (text s) = (length s < 2 ^ 32) × (spelled ≡ behind_length s)
IsValue ByteArray spelled (bytes s) = (length s < 2 ^ 32) × (spelled ≡ behind_length s)
IsValue _ spelled v = ⊥

-- These bytes are these values, one behind the other.
pub data AreValues (type : PhysicalType) : List ℕ → List Value → Type 0 where
  no_value : AreValues type [] []
  value : (v : Value) (vs : List Value) (first others : List ℕ) → IsValue type first v → AreValues type others vs → AreValues type (first ++ others) (v ∷ vs)

-- how many bytes so many bits take
abbrev pub bytes_for_bits : ℕ → ℕ
bytes_for_bits count = (count + 7) / 8

-- the truth value of a bit
abbrev pub truth_of : ℕ → Value
truth_of bit = truth (bit == 1)

-- These bytes have a bit for each of these truth values; what stands in the last byte behind them is left open.
pub record AreBits (packed : List ℕ) (values : List Value) : Type 0 where
  pub size : length packed ≡ bytes_for_bits (length values)
  pub bits : values ≡ map truth_of (unpacked 1 (length values) (low_first packed))

-- These bytes are these values.
abbrev pub IsPlain : PhysicalType → List ℕ → List Value → Type 0
IsPlain Boolean spelled values = AreBits spelled values
IsPlain type spelled values = AreValues type spelled values

-- ---- reading from the left

-- what stands behind its length, and the bytes behind that
unfoldable pub content_at : List ℕ → Result (List ℕ × List ℕ) ByteFault
content_at given = do
  size ← little_at w32 given
  bytes_at size.0 size.1

-- a whole number of four bytes, and of eight
unfoldable pub int32_at : List ℕ → Result (Value × List ℕ) ByteFault
int32_at given = do
  number ← signed_little_at w32 given
  Ok (whole number.0, number.1)

unfoldable pub int64_at : List ℕ → Result (Value × List ℕ) ByteFault
int64_at given = do
  number ← signed_little_at w64 given
  Ok (whole number.0, number.1)

unfoldable pub text_at : List ℕ → Result (Value × List ℕ) ByteFault
text_at given = do
  content ← content_at given
  Ok (text content.0, content.1)

unfoldable pub binary_at : List ℕ → Result (Value × List ℕ) ByteFault
binary_at given = do
  content ← content_at given
  Ok (bytes content.0, content.1)

-- one value of a type that isn't that of truth values
abbrev pub value_at : LeafType → List ℕ → Result (Value × List ℕ) ByteFault
value_at leaf.Boolean given = Err Short
value_at leaf.Byte given = int32_at given
value_at leaf.Short given = int32_at given
value_at leaf.Integer given = int32_at given
value_at leaf.Date given = int32_at given
value_at leaf.Long given = int64_at given
value_at leaf.String given = text_at given
value_at leaf.Binary given = binary_at given

-- so many values, one behind the other
unfoldable pub values_at : LeafType → (count : ℕ) → List ℕ → Result (List Value × List ℕ) ByteFault
values_at type zero given = Ok ([], given)
values_at type (suc count) given = do
  first ← value_at type given
  others ← values_at type count first.1
  Ok (first.0 ∷ others.0, others.1)

-- so many truth values
unfoldable pub truths_at : (count : ℕ) → List ℕ → Result (List Value × List ℕ) ByteFault
truths_at count given = do
  packed ← bytes_at (bytes_for_bits count) given
  Ok (map truth_of (unpacked 1 count (low_first packed.0)), packed.1)

-- so many values of a type, and the bytes behind them
abbrev pub plain_at : LeafType → (count : ℕ) → List ℕ → Result (List Value × List ℕ) ByteFault
plain_at leaf.Boolean count given = truths_at count given
plain_at type count given = values_at type count given
