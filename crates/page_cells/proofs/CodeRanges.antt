-- Values of a type that are in its range however they are spelled, and texts.
use Rattle.std.proofs.Common.{◌≡◌, ℕ, zero, suc, ◌-◌, ◌^◌, ℤ, Bool, true, ◌==◌, List, [], ◌∷◌, length, get_or, drop, take, map, w8, w32, w64, Fits, Result, Ok, refl, sym, ap, ◌∙◌, arith, inl, inr}
use Rattle.std.specs.Int.{Width, byte_len, cast_signed, from_le_bytes}
use Rattle.std.specs.List.{list_all}
use Rattle.std.proofs.lemmas.Bool.{lt-ltb, le-ltb, cases_lt, and_parts, and_from}
use Rattle.std.proofs.lemmas.List.{take-append-drop}
use Rattle.std.proofs.lemmas.List.Folds.{list_all-append}
use Rattle.lake_bytes.specs.LittleEndian.{little_at, signed_little_at}
use Rattle.lake_bytes.specs.Reading.{bytes_at}
use Rattle.outcomes.specs.Results.{◌>>=◌}
use Rattle.lake_bytes.specs.declared.fault.ByteFault.{ByteFault}
use Rattle.row_core.specs.Conforms.{is_byte, is_within}
use Rattle.row_core.specs.Rows.{Value, truth, whole, text, bytes}
use Rattle.lake_bytes.specs.Hybrid.{low_first, unpacked}
use Rattle.page_cells.specs.Plain.{binary_at, bytes_for_bits, content_at, int32_at, int64_at, text_at, truth_of, truths_at, value_at, values_at}
use Rattle.page_cells.specs.declared.types.LeafType.{LeafType}
use Rattle.page_cells.specs.declared.types.LeafType.TheVariants.{Long, String, Binary}
use Rattle.page_cells.proofs.CodeSteps.{ok_step}
use Rattle.page_cells.proofs.CodeValues.{done, done_parts}

-- ---- steps

abbrev pub One : Type 0
One = Result (Value × List ℕ) ByteFault

abbrev pub one : Value → List ℕ → One
one v rest = Ok (v, rest)

pub one_parts : (v w : Value) (rest more : List ℕ) → one v rest ≡ one w more → (v ≡ w) × (rest ≡ more)
one_parts v w rest more e =
    let parts : ◌≡◌ {A = Value × List ℕ} (v, rest) (w, more) = cc in
    (ap (λ (p : Value × List ℕ). p.0) parts, ap (λ (p : Value × List ℕ). p.1) parts)

-- ---- bytes

pub all_bytes : (xs : List ℕ) → ((i : ℕ) → Fits w8 (get_or xs i 0)) → list_all is_byte xs ≡ true
all_bytes [] h = refl
all_bytes (x ∷ xs) h =
    let first : Fits w8 x = h 0 in
    rw (lt-ltb x 256 (omega arith)) (all_bytes xs (λ i. h (suc i)))

bytes_split : (n : ℕ) (xs : List ℕ) → list_all is_byte xs ≡ true
    → (list_all is_byte (take n xs) ≡ true) × (list_all is_byte (drop n xs) ≡ true)
bytes_split n xs h = and_parts (list_all is_byte (take n xs)) (list_all is_byte (drop n xs))
    (sym (list_all-append is_byte (take n xs) (drop n xs)) ∙ ap (list_all is_byte) (take-append-drop n xs) ∙ h)

bytes_taken : (n : ℕ) (given content rest : List ℕ) → list_all is_byte given ≡ true
    → bytes_at n given ≡ Ok (content, rest) → (list_all is_byte content ≡ true) × (list_all is_byte rest ≡ true)
bytes_taken n given content rest are h =
    elim (cases_lt (length given) n) [
      | inl lt ↦ absurd (let bad = rw (lt-ltb (length given) n lt) at h in cc)
      | inr le ↦
          let same : ◌≡◌ {A = Result (List ℕ × List ℕ) ByteFault} (Ok (take n given, drop n given))
          (Ok (content, rest)) = rw (le-ltb (length given) n le) at h in
          let parts : ◌≡◌ {A = List ℕ × List ℕ} (take n given, drop n given) (content, rest) = cc in
          let split = bytes_split n given are in (
            rw (ap (λ (p : List ℕ × List ℕ). p.0) parts) at split.0,
            rw (ap (λ (p : List ℕ × List ℕ). p.1) parts) at
                split.1,
          )
    ]

-- ---- values of which each is fine

-- where bytes come first, a value is fine, and bytes come behind it
abbrev IsFine : (test : Value → Bool) → LeafType → Type 0
IsFine test type = (given : List ℕ) (v : Value) (rest : List ℕ) → list_all is_byte given ≡ true
    → value_at type given ≡ Ok (v, rest) → (test v ≡ true) × (list_all is_byte rest ≡ true)

pub all_fine : (test : Value → Bool) (type : LeafType) → IsFine test type
    → (count : ℕ) (given : List ℕ) (values : List Value) (rest : List ℕ) → list_all is_byte given ≡ true
    → values_at type count given ≡ done values rest → list_all test values ≡ true
unfolding values_at
all_fine test type fine zero given values rest are h =
    let p = done_parts [] values given rest h in
    rw (sym p.0) refl
all_fine test type fine (suc count) given values rest are h =
    let first = ok_step (value_at type given)
    (λ first. values_at type count first.1 >>= λ others. Ok (first.0 ∷ others.0, others.1)) (values, rest) h in
    let others = ok_step (values_at type count first.0.1) (λ others. Ok (first.0.0 ∷ others.0, others.1)) (values, rest)
    first.2 in
    let p = done_parts (first.0.0 ∷ others.0.0) values others.0.1 rest others.2 in
    let one = fine given first.0.0 first.0.1 are first.1 in
    let more = all_fine test type fine count first.0.1 others.0.0 others.0.1 one.1 others.1 in
    sym (ap (list_all test) p.0) ∙ and_from (test first.0.0) (list_all test others.0.0) one.0 more

-- ---- numbers and contents

number_taken : (w : Width) (given : List ℕ) (z : ℤ) (rest : List ℕ) → list_all is_byte given ≡ true
    → signed_little_at w given ≡ Ok (z, rest) → (n : ℕ) × (z ≡ cast_signed w n) × (list_all is_byte rest ≡ true)
unfolding signed_little_at little_at
number_taken w given z rest are h =
    elim (cases_lt (length given) (byte_len w)) [
      | inl lt ↦ absurd (let bad = rw (lt-ltb (length given) (byte_len w) lt) at h in cc)
      | inr le ↦
          let same : ◌≡◌ {A = Result (ℤ × List ℕ) ByteFault}
          (Ok (cast_signed w (from_le_bytes w (take (byte_len w) given)), drop (byte_len w) given)) (Ok (z, rest)) =
          rw (le-ltb (length given) (byte_len w) le) at h in
          let parts : ◌≡◌ {A = ℤ × List ℕ}
          (cast_signed w (from_le_bytes w (take (byte_len w) given)), drop (byte_len w) given) (z, rest) = cc in (
            from_le_bytes w (take (byte_len w) given),
            sym (ap (λ (p : ℤ × List ℕ). p.0) parts),
            rw
                (ap (λ (p : ℤ × List ℕ). p.1) parts) at (bytes_split (byte_len w) given are).1,
          )
    ]

content_taken : (given content rest : List ℕ) → list_all is_byte given ≡ true → content_at given ≡ Ok (content, rest)
    → (list_all is_byte content ≡ true) × (list_all is_byte rest ≡ true)
unfolding content_at little_at
content_taken given content rest are h =
    elim (cases_lt (length given) 4) [
      | inl lt ↦ absurd (let bad = rw (lt-ltb (length given) 4 lt) at h in cc)
      | inr le ↦
          let taken : bytes_at (from_le_bytes w32 (take 4 given)) (drop 4 given) ≡ Ok (content, rest) =
          rw (le-ltb (length given) 4 le) at h in
          bytes_taken (from_le_bytes w32 (take 4 given)) (drop 4 given) content rest (bytes_split 4 given are).1 taken
    ]

pub within_32 : (n : ℕ) → is_within (2 ^ 31) (cast_signed w32 n) ≡ true
within_32 n =
    elim (cases_lt n 2147483648) [
      | inl lt ↦ rw (lt-ltb n 2147483648 lt) (lt-ltb n 2147483648 lt)
      | inr le ↦ rw (le-ltb n 2147483648 le) (lt-ltb (4294967296 - suc n) 2147483648 (omega arith))
    ]

pub within_64 : (n : ℕ) → is_within (2 ^ 63) (cast_signed w64 n) ≡ true
within_64 n =
    elim (cases_lt n 9223372036854775808) [
      | inl lt ↦ rw (lt-ltb n 9223372036854775808 lt) (lt-ltb n 9223372036854775808 lt)
      | inr le ↦ rw (le-ltb n 9223372036854775808 le)
          (lt-ltb (18446744073709551616 - suc n) 9223372036854775808 (omega arith))
    ]

-- ---- numbers of a type

-- a number of four bytes, and of eight, in the range of its type
pub int32_fine : (test : Value → Bool) → ((n : ℕ) → test (whole (cast_signed w32 n)) ≡ true)
    → (given : List ℕ) (v : Value) (rest : List ℕ) → list_all is_byte given ≡ true → int32_at given ≡ Ok (v, rest)
    → (test v ≡ true) × (list_all is_byte rest ≡ true)
unfolding int32_at
int32_fine test within given v rest are h =
    let n = ok_step (signed_little_at w32 given) (λ n. Ok (whole n.0, n.1)) (v, rest) h in
    let t = number_taken w32 given n.0.0 n.0.1 are n.1 in
    let p = one_parts (whole n.0.0) v n.0.1 rest n.2 in
    (rw (sym p.0, t.1) (within t.0), rw p.1 at t.2)

pub int64_fine : (test : Value → Bool) → ((n : ℕ) → test (whole (cast_signed w64 n)) ≡ true) → IsFine test Long
unfolding int64_at
int64_fine test within given v rest are h =
    let n = ok_step (signed_little_at w64 given) (λ n. Ok (whole n.0, n.1)) (v, rest) h in
    let t = number_taken w64 given n.0.0 n.0.1 are n.1 in
    let p = one_parts (whole n.0.0) v n.0.1 rest n.2 in
    (rw (sym p.0, t.1) (within t.0), rw p.1 at t.2)

pub text_fine : (test : Value → Bool) → ((s : List ℕ) → test (text s) ≡ true) → IsFine test String
unfolding text_at
text_fine test passes given v rest are h =
    let s = ok_step (content_at given) (λ s. Ok (text s.0, s.1)) (v, rest) h in
    let t = content_taken given s.0.0 s.0.1 are s.1 in
    let p = one_parts (text s.0.0) v s.0.1 rest s.2 in
    (rw (sym p.0) (passes s.0.0), rw p.1 at t.1)

pub binary_fine : (test : Value → Bool) → ((s : List ℕ) → list_all is_byte s ≡ true → test (bytes s) ≡ true)
    → IsFine test Binary
unfolding binary_at
binary_fine test passes given v rest are h =
    let s = ok_step (content_at given) (λ s. Ok (bytes s.0, s.1)) (v, rest) h in
    let t = content_taken given s.0.0 s.0.1 are s.1 in
    let p = one_parts (bytes s.0.0) v s.0.1 rest s.2 in
    (rw (sym p.0) (passes s.0.0 t.0), rw p.1 at t.1)

-- ---- truth values

truths_fine : (test : Value → Bool) → ((b : Bool) → test (truth b) ≡ true) → (bits : List ℕ)
    → list_all test (map truth_of bits) ≡ true
truths_fine test passes [] = refl
truths_fine test passes (bit ∷ bits) =
    and_from (test (truth_of bit)) (list_all test (map truth_of bits)) (passes (bit == 1))
    (truths_fine test passes bits)

pub all_truths_fine : (test : Value → Bool) → ((b : Bool) → test (truth b) ≡ true)
    → (count : ℕ) (given : List ℕ) (values : List Value) (rest : List ℕ) → truths_at count given ≡ done values rest
    → list_all test values ≡ true
unfolding truths_at
all_truths_fine test passes count given values rest h =
    let packed = ok_step (bytes_at (bytes_for_bits count) given)
    (λ packed. Ok (map truth_of (unpacked 1 count (low_first packed.0)), packed.1)) (values, rest) h in
    let p = done_parts (map truth_of (unpacked 1 count (low_first packed.0.0))) values packed.0.1 rest packed.2 in
    rw (sym p.0) (truths_fine test passes (unpacked 1 count (low_first packed.0.0)))
