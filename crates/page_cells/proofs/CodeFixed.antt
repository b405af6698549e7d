-- Values of so many bytes each, which are passed without a look at them.
use Rattle.std.proofs.Common.{◌≡◌, ℕ, zero, suc, ◌+◌, ◌*◌, ◌≤◌, ◌<◌, false, List, [], ◌∷◌, length, drop, take, map, w32, w64, Result, Ok, Err, refl, sym, ap, ◌∙◌, arith, inl, inr}
use Rattle.std.specs.Int.{cast_signed, from_le_bytes}
use Rattle.std.specs.List.{list_any}
use Rattle.std.proofs.lemmas.Bool.{lt-ltb, le-ltb, cases_lt}
use Rattle.std.proofs.lemmas.List.{length-drop, drop-drop}
use Rattle.lake_bytes.specs.LittleEndian.{little_at, signed_little_at}
use Rattle.lake_bytes.specs.Reading.{bytes_at}
use Rattle.lake_bytes.specs.declared.fault.ByteFault.{ByteFault}
use Rattle.lake_bytes.specs.declared.fault.ByteFault.TheVariants as faults
use Rattle.lake_bytes.specs.Hybrid.{low_first, unpacked}
use Rattle.row_core.specs.Rows.{Value, whole}
use Rattle.page_cells.specs.Plain.{bytes_for_bits, int32_at, int64_at, truth_of, plain_at, truths_at, value_at, values_at}
use Rattle.page_cells.specs.Texts.{is_too_long}
use Rattle.page_cells.specs.Types.{physical_type}
use Rattle.page_cells.specs.declared.types.LeafType.{LeafType}
use Rattle.page_cells.specs.declared.types.LeafType.TheVariants.{Boolean, Byte, Short, Integer, Long, Date, String, Binary}
use Rattle.page_cells.specs.declared.types.PhysicalType.TheVariants as physical
use Rattle.page_cells.proofs.CodeValues.{Read, done, int32_value}

-- each value of the type has so many bytes, and none is too long
record IsFixed (type : LeafType) (size : ℕ) : Type 0 where
  pub short : (given : List ℕ) → length given < size → value_at type given ≡ Err faults.Short
  pub there : (given : List ℕ) → size ≤ length given
      → (v : Value) × (value_at type given ≡ Ok (v, drop size given)) × (is_too_long v ≡ false)

-- values of which none is too long, and the bytes behind them
abbrev pub Passed : Read → List ℕ → Type 0
Passed read rest = (values : List Value) × (read ≡ done values rest) × (false ≡ list_any is_too_long values)

fixed_values : (type : LeafType) (size : ℕ) → IsFixed type size → (count : ℕ) (given : List ℕ)
    → count * size ≤ length given → Passed (values_at type count given) (drop (count * size) given)
unfolding values_at
fixed_values type size fixed zero given le = ([], rw (none size) refl, refl)
  where
    none : (n : ℕ) → 0 * n ≡ 0
    none n = omega arith
fixed_values type size fixed (suc count) given le =
    let one = fixed.there given (omega arith) in
    let fits : count * size ≤ length (drop size given) = omega (arith, length-drop size given) in
    let more = fixed_values type size fixed count (drop size given) fits in
    let total : suc count * size ≡ size + count * size = omega arith in
    let left : drop (count * size) (drop size given) ≡ drop (suc count * size) given =
    drop-drop (count * size) size given ∙ ap (λ (n : ℕ). drop n given) (sym total) in
    (one.0 ∷ more.0, rw (one.1, more.1, left) refl, rw one.2 more.2)

fixed_short : (type : LeafType) (size : ℕ) → IsFixed type size → (count : ℕ) (given : List ℕ)
    → length given < count * size → values_at type count given ≡ Err faults.Short
unfolding values_at
fixed_short type size fixed zero given lt = absurd (omega arith)
fixed_short type size fixed (suc count) given lt =
    elim (cases_lt (length given) size) [
      | inl few ↦ rw (fixed.short given few) refl
      | inr enough ↦
          let one = fixed.there given enough in
          let more = fixed_short type size fixed count (drop size given) (omega (arith, length-drop size given)) in
          rw (one.1, more) refl
    ]

number_there : (given : List ℕ) → 4 ≤ length given
    → (v : Value) × (int32_at given ≡ Ok (v, drop 4 given)) × (is_too_long v ≡ false)
unfolding int32_at signed_little_at little_at
number_there given le = (
  whole (cast_signed w32 (from_le_bytes w32 (take 4 given))),
  rw (le-ltb (length given) 4 le)
      refl,
  refl,
)

number_short : (given : List ℕ) → length given < 4 → int32_at given ≡ Err faults.Short
unfolding int32_at signed_little_at little_at
number_short given lt = rw (lt-ltb (length given) 4 lt) refl

int32_fixed : (type : LeafType) → physical_type type ≡ physical.Int32 → IsFixed type 4
int32_fixed type is = record {
  short = λ given lt. int32_value type is given ∙ number_short given lt;
  there = λ given le. let n = number_there given le in (n.0, int32_value type is given ∙ n.1, n.2);
}

long_there : (given : List ℕ) → 8 ≤ length given
    → (v : Value) × (value_at Long given ≡ Ok (v, drop 8 given)) × (is_too_long v ≡ false)
unfolding int64_at signed_little_at little_at
long_there given le = (
  whole (cast_signed w64 (from_le_bytes w64 (take 8 given))),
  rw (le-ltb (length given) 8 le) refl,
  refl,
)

long_short : (given : List ℕ) → length given < 8 → value_at Long given ≡ Err faults.Short
unfolding int64_at signed_little_at little_at
long_short given lt = rw (lt-ltb (length given) 8 lt) refl

int64_fixed : IsFixed Long 8
int64_fixed = record { short = long_short; there = long_there }

-- ---- bytes that were passed

bytes_there : (n : ℕ) (given bytes rest : List ℕ) → bytes_at n given ≡ Ok (bytes, rest)
    → (n ≤ length given) × (rest ≡ drop n given)
bytes_there n given bytes rest h =
    elim (cases_lt (length given) n) [
      | inl lt ↦ let bad : ◌≡◌ {A = Result (List ℕ × List ℕ) ByteFault} (Err faults.Short) (Ok (bytes, rest)) =
          rw (lt-ltb (length given) n lt) at h in absurd cc
      | inr le ↦
          let same : ◌≡◌ {A = Result (List ℕ × List ℕ) ByteFault} (Ok (take n given, drop n given)) (Ok (bytes, rest)) =
          rw (le-ltb (length given) n le) at h in
          let parts : ◌≡◌ {A = List ℕ × List ℕ} (take n given, drop n given) (bytes, rest) = cc in
          (le, sym (ap (λ (p : List ℕ × List ℕ). p.1) parts))
    ]

bytes_short : (n : ℕ) (given : List ℕ) (fault : ByteFault) → bytes_at n given ≡ Err fault
    → (length given < n) × (fault ≡ faults.Short)
bytes_short n given fault h =
    elim (cases_lt (length given) n) [
      | inl lt ↦ let same : ◌≡◌ {A = Result (List ℕ × List ℕ) ByteFault} (Err faults.Short) (Err fault) =
          rw (lt-ltb (length given) n lt) at h in (lt, cc)
      | inr le ↦ let bad : ◌≡◌ {A = Result (List ℕ × List ℕ) ByteFault} (Ok (take n given, drop n given)) (Err fault) =
          rw (le-ltb (length given) n le) at h in absurd cc
    ]

passed_fixed : (type : LeafType) (size : ℕ) → IsFixed type size → (count : ℕ) (given bytes rest : List ℕ)
    → bytes_at (count * size) given ≡ Ok (bytes, rest) → Passed (values_at type count given) rest
passed_fixed type size fixed count given bytes rest h =
    let there = bytes_there (count * size) given bytes rest h in
    let values = fixed_values type size fixed count given there.0 in
    (values.0, values.1 ∙ ap (λ (more : List ℕ). done values.0 more) (sym there.1), values.2)

short_fixed : (type : LeafType) (size : ℕ) → IsFixed type size → (count : ℕ) (given : List ℕ) (fault : ByteFault)
    → bytes_at (count * size) given ≡ Err fault → values_at type count given ≡ Err fault
short_fixed type size fixed count given fault h =
    let short = bytes_short (count * size) given fault h in
    rw short.1 (fixed_short type size fixed count given short.0)

pub passed_int32 : (type : LeafType) → physical_type type ≡ physical.Int32 → (count : ℕ) (given bytes rest : List ℕ)
    → bytes_at (count * 4) given ≡ Ok (bytes, rest) → Passed (values_at type count given) rest
passed_int32 type is = passed_fixed type 4 (int32_fixed type is)

pub short_int32 : (type : LeafType) → physical_type type ≡ physical.Int32
    → (count : ℕ) (given : List ℕ) (fault : ByteFault) → bytes_at (count * 4) given ≡ Err fault
    → values_at type count given ≡ Err fault
short_int32 type is = short_fixed type 4 (int32_fixed type is)

pub passed_int64 : (count : ℕ) (given bytes rest : List ℕ) → bytes_at (count * 8) given ≡ Ok (bytes, rest)
    → Passed (values_at Long count given) rest
passed_int64 = passed_fixed Long 8 int64_fixed

pub short_int64 : (count : ℕ) (given : List ℕ) (fault : ByteFault) → bytes_at (count * 8) given ≡ Err fault
    → values_at Long count given ≡ Err fault
short_int64 = short_fixed Long 8 int64_fixed

-- ---- truth values

no_truth_long : (bits : List ℕ) → false ≡ list_any is_too_long (map truth_of bits)
no_truth_long [] = refl
no_truth_long (bit ∷ bits) = no_truth_long bits

pub passed_truths : (count : ℕ) (given bytes rest : List ℕ)
    → bytes_at (bytes_for_bits count * 1) given ≡ Ok (bytes, rest) → Passed (truths_at count given) rest
unfolding truths_at
passed_truths count given bytes rest h =
    let one : bytes_for_bits count * 1 ≡ bytes_for_bits count = omega arith in
    let there : bytes_at (bytes_for_bits count) given ≡ Ok (bytes, rest) = rw one at h in (
      map truth_of (unpacked 1 count (low_first bytes)),
      rw there refl,
      no_truth_long
          (unpacked 1 count (low_first bytes)),
    )

pub short_truths : (count : ℕ) (given : List ℕ) (fault : ByteFault)
    → bytes_at (bytes_for_bits count * 1) given ≡ Err fault → truths_at count given ≡ Err fault
unfolding truths_at
short_truths count given fault h =
    let one : bytes_for_bits count * 1 ≡ bytes_for_bits count = omega arith in
    let there : bytes_at (bytes_for_bits count) given ≡ Err fault = rw one at h in
    rw there refl

pub truths_read : (count size : ℕ) (given packed rest : List ℕ) → size ≡ bytes_for_bits count
    → bytes_at size given ≡ Ok (packed, rest)
    → truths_at count given ≡ done (map truth_of (unpacked 1 count (low_first packed))) rest
unfolding truths_at
truths_read count size given packed rest is h =
    let there : bytes_at (bytes_for_bits count) given ≡ Ok (packed, rest) = rw is at h in
    rw there refl

-- ---- values of a type

pub plain_boolean : (type : LeafType) (count : ℕ) (given : List ℕ) → physical_type type ≡ physical.Boolean
    → plain_at type count given ≡ truths_at count given
plain_boolean Boolean count given is = refl
plain_boolean Byte count given is = absurd cc
plain_boolean Short count given is = absurd cc
plain_boolean Integer count given is = absurd cc
plain_boolean Long count given is = absurd cc
plain_boolean Date count given is = absurd cc
plain_boolean String count given is = absurd cc
plain_boolean Binary count given is = absurd cc

pub plain_int32 : (type : LeafType) (count : ℕ) (given : List ℕ) → physical_type type ≡ physical.Int32
    → plain_at type count given ≡ values_at type count given
plain_int32 Boolean count given is = absurd cc
plain_int32 Byte count given is = refl
plain_int32 Short count given is = refl
plain_int32 Integer count given is = refl
plain_int32 Long count given is = absurd cc
plain_int32 Date count given is = refl
plain_int32 String count given is = absurd cc
plain_int32 Binary count given is = absurd cc

pub plain_int64 : (type : LeafType) (count : ℕ) (given : List ℕ) → physical_type type ≡ physical.Int64
    → plain_at type count given ≡ values_at Long count given
plain_int64 Boolean count given is = absurd cc
plain_int64 Byte count given is = absurd cc
plain_int64 Short count given is = absurd cc
plain_int64 Integer count given is = absurd cc
plain_int64 Long count given is = refl
plain_int64 Date count given is = absurd cc
plain_int64 String count given is = absurd cc
plain_int64 Binary count given is = absurd cc
