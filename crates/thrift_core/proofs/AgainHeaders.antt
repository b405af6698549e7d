-- What spells a value of one part or a header is read again, whatever follows it.
use Rattle.std.proofs.Common.{T, ◌≡◌, ◌≢◌, ℕ, ◌+◌, ◌*◌, ◌/◌, ◌%◌, ◌<◌, ◌≤◌, ℤ, pos, ◌+ℤ◌, Bool, true, false, List, [], ◌∷◌, ◌++◌, length, Ok, refl, ap, subst, append_assoc, arith, length-append}
use Rattle.std.specs.Int.Signed.{le_z}
use Rattle.std.proofs.lemmas.Bool.{le-ltb, ne_eqb}
use Rattle.std.proofs.lemmas.List.{take_at, drop_at}
use Rattle.lake_bytes.specs.Varint.{SpellsNumber}
use Rattle.lake_bytes.specs.Zigzag.{SpellsSigned}
use Rattle.lake_bytes.proofs.Callers.{varint_stands}
use Rattle.lake_bytes.proofs.Callers.{signed_stands}
use Rattle.thrift_values.specs.Tree.{boolean, integer, binary, skipped}
use Rattle.thrift_core.specs.Wire.{Announces}
use Rattle.thrift_core.specs.Spelling.{InTurn, SpellsBoolean, one, two, none, SpellsByte, SpellsBinary, ListHeader, small_size, size_behind, FieldHeader, id_rises, id_behind}
use Rattle.thrift_core.specs.Reading.{of_bytes, varint_ahead, signed_ahead, bytes_ahead, bounded_size, boolean_ahead, byte_number_ahead, integer_ahead, double_ahead, binary_ahead, list_header_ahead, map_header_ahead, id_ahead}
use Rattle.thrift_core.specs.declared.source.Source.{Source}
use Rattle.thrift_core.specs.declared.wire.WireType.{WireType}
use Rattle.thrift_core.specs.declared.wire.WireType.TheVariants as wire

-- these bytes are left, and so many values may come
abbrev pub at : ℕ → List ℕ → Source
at n bytes = record { cursor = bytes; nodes = n }

-- ---- parts

pub varint_again : (front : List ℕ) (n : ℕ) (rest : List ℕ) (m : ℕ) → SpellsNumber front n → varint_ahead (at m (front ++ rest)) ≡ Ok (n, at m rest)
varint_again front n rest m p = ap (λ r. of_bytes r (at m (front ++ rest))) (varint_stands front rest n p)

pub signed_again : (width : ℕ) (front : List ℕ) (z : ℤ) (rest : List ℕ) (m : ℕ) → SpellsSigned width front z → signed_ahead width (at m (front ++ rest)) ≡ Ok (z, at m rest)
signed_again width front z rest m p = ap (λ r. of_bytes r (at m (front ++ rest))) (signed_stands width front rest z p)

pub bytes_again : (count : ℕ) (text rest : List ℕ) (m : ℕ) → length text ≡ count → bytes_ahead count (at m (text ++ rest)) ≡ Ok (text, at m rest)
bytes_again count text rest m many =
    let long : count ≤ length (text ++ rest) = omega (arith, length-append text rest) in
    rw (le-ltb (length (text ++ rest)) count long, take_at text rest count many, drop_at text rest count many) refl

pub bounded_size_again : (size : ℕ) (rest : List ℕ) (m : ℕ) → size ≤ length rest → bounded_size size (at m rest) ≡ Ok (size, at m rest)
unfolding bounded_size
bounded_size_again size rest m long = rw (le-ltb (length rest) size long) refl

pub number_length : (front : List ℕ) (n : ℕ) → SpellsNumber front n → 1 ≤ length front
number_length [] n p = absurd p.varint
number_length (b ∷ front) n p = omega arith

-- ---- values of one part

pub boolean_again : (front : List ℕ) (b : Bool) (rest : List ℕ) (m : ℕ) → SpellsBoolean front b → boolean_ahead (at m (front ++ rest)) ≡ Ok (boolean b, at m rest)
unfolding boolean_ahead
boolean_again front b rest m (one is value) = rw (is, value) refl
boolean_again front b rest m (two is value) = rw (is, value) refl
boolean_again front b rest m (none is value) = rw (is, value) refl

pub byte_number_again : (front : List ℕ) (z : ℤ) (rest : List ℕ) (m : ℕ) → SpellsByte front z → byte_number_ahead (at m (front ++ rest)) ≡ Ok (integer z, at m rest)
unfolding byte_number_ahead
byte_number_again front z rest m p = rw (p.alone, p.value) refl

pub integer_again : (width : ℕ) (front : List ℕ) (z : ℤ) (rest : List ℕ) (m : ℕ) → SpellsSigned width front z → integer_ahead width (at m (front ++ rest)) ≡ Ok (integer z, at m rest)
unfolding integer_ahead
integer_again width front z rest m p = rw (signed_again width front z rest m p) refl

pub double_again : (front rest : List ℕ) (m : ℕ) → length front ≡ 8 → double_ahead (at m (front ++ rest)) ≡ Ok (skipped, at m rest)
unfolding double_ahead
double_again front rest m many = rw (bytes_again 8 front rest m many) refl

pub binary_again : (front text rest : List ℕ) (m : ℕ) → SpellsBinary front text → binary_ahead (at m (front ++ rest)) ≡ Ok (binary text, at m rest)
unfolding binary_ahead
binary_again front text rest m p =
    let start : front ++ rest ≡ p.front ++ (text ++ rest) = rw (p.whole, p.second, append_assoc) refl in
    rw (start, varint_again p.front (length text) (text ++ rest) m p.first, bytes_again (length text) text rest m refl) refl

-- ---- headers

pub list_header_again : (size : ℕ) (member : WireType) (front rest : List ℕ) (m : ℕ) → ListHeader size member front → size ≤ length rest → list_header_ahead (at m (front ++ rest)) ≡ Ok ((member, size), at m rest)
unfolding list_header_ahead
list_header_again size member front rest m (small_size number names small is) long =
    let fits : number < 16 = names.fits in
    let low : (16 * size + number) % 16 ≡ number = omega arith in
    let high : (16 * size + number) / 16 ≡ size = omega arith in
    let below : size ≢ 15 = omega arith in
    rw (is, low, high, names.is, ne_eqb size 15 below, bounded_size_again size rest m long) refl
list_header_again size member front rest m (size_behind number behind names spelled is) long =
    let fits : number < 16 = names.fits in
    let low : (16 * 15 + number) % 16 ≡ number = omega arith in
    let high : (16 * 15 + number) / 16 ≡ 15 = omega arith in
    rw (is, low, high, names.is, varint_again behind size rest m spelled, bounded_size_again size rest m long) refl

pub empty_map_again : (front rest : List ℕ) (m : ℕ) → SpellsNumber front 0 → map_header_ahead (at m (front ++ rest)) ≡ Ok ((wire.Boolean, wire.Boolean, 0), at m rest)
unfolding map_header_ahead
empty_map_again front rest m p = rw (varint_again front 0 rest m p, bounded_size_again 0 rest m (omega arith)) refl

pub filled_map_again : (size of_keys of_values : ℕ) (key value : WireType) (front rest : List ℕ) (m : ℕ) → Announces of_keys key → Announces of_values value → 0 < size
    → InTurn (λ front. SpellsNumber front size) (λ back. back ≡ (16 * of_keys + of_values) ∷ []) front → size ≤ length rest → map_header_ahead (at m (front ++ rest)) ≡ Ok ((key, value, size), at m rest)
unfolding map_header_ahead
filled_map_again size of_keys of_values key value front rest m keys values some p long =
    let small : of_values < 16 = values.fits in
    let low : (16 * of_keys + of_values) % 16 ≡ of_values = omega arith in
    let high : (16 * of_keys + of_values) / 16 ≡ of_keys = omega arith in
    let more : size ≢ 0 = omega arith in
    let start : front ++ rest ≡ p.front ++ ((16 * of_keys + of_values) ∷ rest) = rw (p.whole, p.second, append_assoc) refl in
    let longer : size ≤ length ((16 * of_keys + of_values) ∷ rest) = omega arith in
    rw (start, varint_again p.front size ((16 * of_keys + of_values) ∷ rest) m p.first, bounded_size_again size ((16 * of_keys + of_values) ∷ rest) m longer, ne_eqb size 0 more, low, high, keys.is, values.is) refl

true_from_T : (b : Bool) → T b → b ≡ true
true_from_T true h = refl
true_from_T false h = absurd h

-- what a field's header is read as
pub record ReadsHeader (last : ℤ) (number : ℕ) (id : ℤ) (front : List ℕ) : Type 0 where
  pub byte : ℕ
  pub behind : List ℕ
  pub is : front ≡ byte ∷ behind
  pub low : byte % 16 ≡ number
  pub some : byte ≡ 0 → ⊥
  pub reads : (rest : List ℕ) (m : ℕ) → id_ahead (byte / 16) last (at m (behind ++ rest)) ≡ Ok (id, at m rest)

pub field_header_again : (last : ℤ) (number : ℕ) (id : ℤ) (front : List ℕ) → 0 < number → number < 16 → FieldHeader last number id front → ReadsHeader last number id front
unfolding id_ahead
field_header_again last number id front some small (id_rises rise up most rises fits is) =
    let high : (16 * rise + number) / 16 ≡ rise = omega arith in
    let more : rise ≢ 0 = omega arith in
    let in_range : le_z (last +ℤ pos rise) (pos 32767) ≡ true = true_from_T _ (subst (λ (z : ℤ). T (le_z z (pos 32767))) rises fits.le) in
    record {
      byte = 16 * rise + number;
      behind = [];
      is = is;
      low = omega arith;
      some = omega arith;
      reads = λ rest m. rw (high, ne_eqb rise 0 more, in_range, rises) refl;
    }
field_header_again last number id front some small (id_behind behind spelled is) =
    let high : number / 16 ≡ 0 = omega arith in
    record {
      byte = number;
      behind = behind;
      is = is;
      low = omega arith;
      some = omega arith;
      reads = λ rest m. rw high (signed_again 16 behind id rest m spelled);
    }
