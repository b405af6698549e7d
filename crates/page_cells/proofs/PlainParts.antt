-- Values in PLAIN: how many there are, that none is null or a struct, and where they are cut.
use Rattle.std.proofs.Common.{◌≡◌, ℕ, zero, suc, ◌+◌, ◌-◌, ◌≤◌, true, List, [], ◌∷◌, length, map, take, drop, Ok, refl, sym, ap, subst, ◌∙◌, arith, All}
use Rattle.std.specs.Int.{w32, w64}
use Rattle.std.proofs.lemmas.List.{length-map}
use Rattle.std.proofs.lemmas.List.Elements.{All-nil, All-cons, All-drop, All-take}
use Rattle.lake_bytes.specs.Hybrid.{low_first, unpacked}
use Rattle.lake_bytes.specs.LittleEndian.{signed_little_at}
use Rattle.lake_bytes.specs.Reading.{bytes_at}
use Rattle.outcomes.specs.Results.{◌>>=◌}
use Rattle.lake_bytes.proofs.Callers.{length-unpacked}
use Rattle.row_core.specs.Rows.{Value, whole, text, bytes}
use Rattle.shred.specs.Fits.{is_plain}
use Rattle.shred.specs.Parts.{part_of}
use Rattle.page_cells.specs.Plain.{binary_at, bytes_for_bits, content_at, int32_at, int64_at, plain_at, text_at, truth_of, truths_at, value_at, values_at}
use Rattle.page_cells.specs.declared.types.LeafType.{LeafType}
use Rattle.page_cells.specs.declared.types.LeafType.TheVariants.{Boolean, Byte, Short, Integer, Long, Date, String, Binary}
use Rattle.page_cells.proofs.CodeSteps.{ok_step}
use Rattle.page_cells.proofs.CodeRanges.{one, one_parts}
use Rattle.page_cells.proofs.CodeValues.{done, done_parts}

-- ---- one value

abbrev IsPlainValue : Value → Type 0
IsPlainValue v = is_plain v ≡ true

int32_plain : (given : List ℕ) (v : Value) (rest : List ℕ) → int32_at given ≡ one v rest → IsPlainValue v
unfolding int32_at
int32_plain given v rest h =
    let n = ok_step (signed_little_at w32 given) (λ n. Ok (whole n.0, n.1)) (v, rest) h in
    rw (sym (one_parts (whole n.0.0) v n.0.1 rest n.2).0) refl

int64_plain : (given : List ℕ) (v : Value) (rest : List ℕ) → int64_at given ≡ one v rest → IsPlainValue v
unfolding int64_at
int64_plain given v rest h =
    let n = ok_step (signed_little_at w64 given) (λ n. Ok (whole n.0, n.1)) (v, rest) h in
    rw (sym (one_parts (whole n.0.0) v n.0.1 rest n.2).0) refl

text_plain : (given : List ℕ) (v : Value) (rest : List ℕ) → text_at given ≡ one v rest → IsPlainValue v
unfolding text_at
text_plain given v rest h =
    let s = ok_step (content_at given) (λ s. Ok (text s.0, s.1)) (v, rest) h in
    rw (sym (one_parts (text s.0.0) v s.0.1 rest s.2).0) refl

binary_plain : (given : List ℕ) (v : Value) (rest : List ℕ) → binary_at given ≡ one v rest → IsPlainValue v
unfolding binary_at
binary_plain given v rest h =
    let s = ok_step (content_at given) (λ s. Ok (bytes s.0, s.1)) (v, rest) h in
    rw (sym (one_parts (bytes s.0.0) v s.0.1 rest s.2).0) refl

value_plain : (type : LeafType) (given : List ℕ) (v : Value) (rest : List ℕ) → value_at type given ≡ one v rest
    → IsPlainValue v
value_plain Boolean given v rest h = absurd cc
value_plain Byte given v rest h = int32_plain given v rest h
value_plain Short given v rest h = int32_plain given v rest h
value_plain Integer given v rest h = int32_plain given v rest h
value_plain Date given v rest h = int32_plain given v rest h
value_plain Long given v rest h = int64_plain given v rest h
value_plain String given v rest h = text_plain given v rest h
value_plain Binary given v rest h = binary_plain given v rest h

-- ---- values

-- So many values were read, none of which is null or a struct.
pub record AreRead (count : ℕ) (values : List Value) : Type 0 where
  pub many : length values ≡ count
  pub plain : All (λ v. is_plain v ≡ true) values

values_read : (type : LeafType) (count : ℕ) (given : List ℕ) (values : List Value) (rest : List ℕ)
    → values_at type count given ≡ done values rest → AreRead count values
unfolding values_at
values_read type zero given values rest h =
    let p = done_parts [] values given rest h in
    rw (sym p.0) (record { many = refl; plain = All-nil (λ v. is_plain v ≡ true) })
values_read type (suc count) given values rest h =
    let first = ok_step (value_at type given)
    (λ first. values_at type count first.1 >>= λ others. Ok (first.0 ∷ others.0, others.1)) (values, rest) h in
    let others = ok_step (values_at type count first.0.1) (λ others. Ok (first.0.0 ∷ others.0, others.1)) (values, rest)
    first.2 in
    let p = done_parts (first.0.0 ∷ others.0.0) values others.0.1 rest others.2 in
    let more = values_read type count first.0.1 others.0.0 others.0.1 others.1 in
    rw (sym p.0) (record {
      many = ap suc more.many;
      plain = All-cons (λ v. is_plain v ≡ true) first.0.0 others.0.0
          (value_plain type given first.0.0 first.0.1 first.1) more.plain;
    })

truths_plain : (bits : List ℕ) → All (λ v. is_plain v ≡ true) (map truth_of bits)
truths_plain [] = All-nil (λ v. is_plain v ≡ true)
truths_plain (bit ∷ bits) =
    All-cons (λ v. is_plain v ≡ true) (truth_of bit) (map truth_of bits) refl (truths_plain bits)

-- the bits of truth values
pub truths_bits : (count : ℕ) (given : List ℕ) (values : List Value) (rest : List ℕ)
    → truths_at count given ≡ done values rest
    → (packed : List ℕ × List ℕ) × (bytes_at (bytes_for_bits count) given ≡ Ok packed)
    × (map truth_of (unpacked 1 count (low_first packed.0)) ≡ values) × (packed.1 ≡ rest)
unfolding truths_at
truths_bits count given values rest h =
    let packed = ok_step (bytes_at (bytes_for_bits count) given)
    (λ packed. Ok (map truth_of (unpacked 1 count (low_first packed.0)), packed.1)) (values, rest) h in
    let p = done_parts (map truth_of (unpacked 1 count (low_first packed.0.0))) values packed.0.1 rest packed.2 in
    (packed.0, packed.1, p.0, p.1)

truths_read : (count : ℕ) (given : List ℕ) (values : List Value) (rest : List ℕ)
    → truths_at count given ≡ done values rest → AreRead count values
truths_read count given values rest h =
    let p = truths_bits count given values rest h in
    let bits = unpacked 1 count (low_first p.0.0) in
    rw (sym p.2) (record {
      many = length-map bits truth_of ∙ length-unpacked 1 count (low_first p.0.0);
      plain = truths_plain bits;
    })

pub plain_read : (type : LeafType) (count : ℕ) (given : List ℕ) (values : List Value) (rest : List ℕ)
    → plain_at type count given ≡ done values rest → AreRead count values
plain_read Boolean count given values rest h = truths_read count given values rest h
plain_read Byte count given values rest h = values_read Byte count given values rest h
plain_read Short count given values rest h = values_read Short count given values rest h
plain_read Integer count given values rest h = values_read Integer count given values rest h
plain_read Date count given values rest h = values_read Date count given values rest h
plain_read Long count given values rest h = values_read Long count given values rest h
plain_read String count given values rest h = values_read String count given values rest h
plain_read Binary count given values rest h = values_read Binary count given values rest h

-- ---- where values are cut

-- The first values of those that are read, and those behind them.
pub record AreSplit (type : LeafType) (a b : ℕ) (given : List ℕ) (values : List Value) (rest : List ℕ) : Type 0 where
  pub between : List ℕ
  pub front : values_at type a given ≡ done (take a values) between
  pub behind : values_at type b between ≡ done (drop a values) rest

one_more : (type : LeafType) (a b : ℕ) (given after : List ℕ) (v : Value) (values : List Value) (rest : List ℕ)
    → value_at type given ≡ one v after → AreSplit type a b after values rest
    → AreSplit type (suc a) b given (v ∷ values) rest
unfolding values_at
one_more type a b given after v values rest is s = record {
  between = s.between;
  front = rw (is, s.front) refl;
  behind = s.behind;
}

pub values_split : (type : LeafType) (a b : ℕ) (given : List ℕ) (values : List Value) (rest : List ℕ)
    → values_at type (a + b) given ≡ done values rest → AreSplit type a b given values rest
unfolding values_at
values_split type zero b given values rest h =
    let none : 0 + b ≡ b = omega arith in
    record { between = given; front = refl; behind = rw none at h }
values_split type (suc a) b given values rest h =
    let more : suc a + b ≡ suc (a + b) = omega arith in
    let all : values_at type (suc (a + b)) given ≡ done values rest = rw more at h in
    let first = ok_step (value_at type given)
    (λ first. values_at type (a + b) first.1 >>= λ others. Ok (first.0 ∷ others.0, others.1)) (values, rest) all in
    let others = ok_step (values_at type (a + b) first.0.1) (λ others. Ok (first.0.0 ∷ others.0, others.1))
    (values, rest) first.2 in
    let p = done_parts (first.0.0 ∷ others.0.0) values others.0.1 rest others.2 in
    let s = values_split type a b first.0.1 others.0.0 others.0.1 others.1 in
    let ends = subst (λ (more : List ℕ). AreSplit type a b first.0.1 others.0.0 more) p.1 s in
    subst (λ (vs : List Value). AreSplit type (suc a) b given vs rest) p.0
    (one_more type a b given first.0.1 first.0.0 others.0.0 rest first.1 ends)

-- Of values that are read, those that are passed over and those behind them that are kept.
pub record AreCut (type : LeafType) (skip count : ℕ) (given : List ℕ) (values : List Value) : Type 0 where
  pub between : List ℕ
  pub behind : List ℕ
  pub passed : values_at type skip given ≡ done (take skip values) between
  pub kept : values_at type count between ≡ done (part_of skip count values) behind

pub values_cut : (type : LeafType) (skip count total : ℕ) (given : List ℕ) (values : List Value) (rest : List ℕ)
    → skip + count ≤ total → values_at type total given ≡ done values rest → AreCut type skip count given values
values_cut type skip count total given values rest few h =
    let all : total ≡ skip + (count + (total - skip - count)) = omega arith in
    let first = values_split type skip (count + (total - skip - count)) given values rest (rw all at h) in
    let others = values_split type count (total - skip - count) first.between (drop skip values) rest first.behind in
    record { between = first.between; behind = others.between; passed = first.front; kept = others.front }

-- of a type that isn't that of truth values
pub plain_values : (type : LeafType) (count : ℕ) (given : List ℕ) → (type ≡ Boolean → ⊥)
    → plain_at type count given ≡ values_at type count given
plain_values Boolean count given other = absurd (other refl)
plain_values Byte count given other = refl
plain_values Short count given other = refl
plain_values Integer count given other = refl
plain_values Date count given other = refl
plain_values Long count given other = refl
plain_values String count given other = refl
plain_values Binary count given other = refl

-- what holds of all values holds of those that are kept
pub all_part : (P : Value → Type 0) (skip count : ℕ) (values : List Value) → All P values
    → All P (part_of skip count values)
all_part P skip count values all = All-take P count (drop skip values) (All-drop P skip values all)
