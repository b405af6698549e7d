-- What is asked of the values of a leaf, which holds for all of most types.
use Rattle.std.proofs.Common.{◌≡◌, ℕ, suc, pos, negsuc, Bool, true, false, ◌&&◌, ◌||◌, nat_lt, nat_le, List, [], ◌∷◌, length, refl, ◌∙◌, arith, inl, inr}
use Rattle.std.specs.List.{list_all, list_any}
use Rattle.std.proofs.lemmas.Bool.{lt-ltb, le-ltb, le-leb, lt-leb, cases_lt, and_parts, and_from}
use Rattle.row_core.specs.Conforms.{is_byte, is_leaf_value, is_short, max_bytes}
use Rattle.row_core.specs.Rows.{Value, whole}
use Rattle.schema_tree.specs.declared.primitive.Primitive.TheVariants as primitive
use Rattle.page_cells.specs.Internal.{is_between}
use Rattle.page_cells.specs.Texts.{is_proper, is_too_long}
use Rattle.page_cells.specs.Plain.{plain_at}
use Rattle.page_cells.specs.Types.{primitive_of}
use Rattle.page_cells.specs.declared.types.LeafType.{LeafType}
use Rattle.page_cells.specs.declared.types.LeafType.TheVariants.{Boolean, Byte, Short, Integer, Long, Date, String, Binary}
use Rattle.page_cells.proofs.CodeValues.{done}
use Rattle.page_cells.proofs.CodeRanges.{all_fine, all_truths_fine, binary_fine, int32_fine, int64_fine, text_fine, within_32, within_64}

-- values that aren't texts are proper
pub others_proper : (type : LeafType) → (type ≡ String → ⊥)
    → (count : ℕ) (given : List ℕ) (values : List Value) (rest : List ℕ) → list_all is_byte given ≡ true
    → plain_at type count given ≡ done values rest → list_all is_proper values ≡ true
others_proper Boolean not_text count given values rest are h =
    all_truths_fine is_proper (λ b. refl) count given values rest h
others_proper Byte not_text count given values rest are h =
    all_fine is_proper Byte (int32_fine is_proper (λ n. refl)) count given values rest are h
others_proper Short not_text count given values rest are h =
    all_fine is_proper Short (int32_fine is_proper (λ n. refl)) count given values rest are h
others_proper Integer not_text count given values rest are h =
    all_fine is_proper Integer (int32_fine is_proper (λ n. refl)) count given values rest are h
others_proper Long not_text count given values rest are h =
    all_fine is_proper Long (int64_fine is_proper (λ n. refl)) count given values rest are h
others_proper Date not_text count given values rest are h =
    all_fine is_proper Date (int32_fine is_proper (λ n. refl)) count given values rest are h
others_proper String not_text count given values rest are h = absurd (not_text refl)
others_proper Binary not_text count given values rest are h =
    all_fine is_proper Binary (binary_fine is_proper (λ s b. refl)) count given values rest are h

-- a value that isn't too long, or of which that is so
abbrev long_or : (Value → Bool) → Value → Bool
long_or test v = is_too_long v || test v

not_long : (test : Value → Bool) (values : List Value) → list_any is_too_long values ≡ false
    → list_all (long_or test) values ≡ true → list_all test values ≡ true
not_long test [] none all = refl
not_long test (v ∷ vs) none all =
    let n = or_parts (is_too_long v) (list_any is_too_long vs) none in
    let a = and_parts (long_or test v) (list_all (long_or test) vs) all in
    let first : (is_too_long v || test v) ≡ true = a.0 in
    and_from (test v) (list_all test vs) (rw n.0 at first) (not_long test vs n.1 a.1)
  where
    or_parts : (a b : Bool) → (a || b) ≡ false → (a ≡ false) × (b ≡ false)
    or_parts true b h = absurd cc
    or_parts false b h = (refl, h)

-- a content is short or too long
short_or_long : (s : List ℕ) → (nat_lt max_bytes (length s) || is_short s) ≡ true
short_or_long s =
    elim (cases_lt max_bytes (length s)) [
      | inl lt ↦ rw (lt-ltb max_bytes (length s) lt) refl
      | inr le ↦ rw (le-ltb max_bytes (length s) le) (le-leb (length s) max_bytes le)
    ]

short_bytes : (s : List ℕ) → list_all is_byte s ≡ true
    → (nat_lt max_bytes (length s) || (is_short s && list_all is_byte s)) ≡ true
short_bytes s are = rw are (both (is_short s) (short_or_long s))
  where
    both : (b : Bool) → (nat_lt max_bytes (length s) || b) ≡ true → (nat_lt max_bytes (length s) || (b && true)) ≡ true
    both true h = h
    both false h = h

-- the values of a type that is as wide as its number are in its range
pub others_in_range : (type : LeafType) → (type ≡ Byte → ⊥) → (type ≡ Short → ⊥)
    → (count : ℕ) (given : List ℕ) (values : List Value) (rest : List ℕ) → list_all is_byte given ≡ true
    → plain_at type count given ≡ done values rest → list_any is_too_long values ≡ false
    → list_all (is_leaf_value (primitive_of type)) values ≡ true
others_in_range Boolean b s count given values rest are h none =
    all_truths_fine (is_leaf_value primitive.Boolean) (λ b. refl) count given values rest h
others_in_range Byte b s count given values rest are h none = absurd (b refl)
others_in_range Short b s count given values rest are h none = absurd (s refl)
others_in_range Integer b s count given values rest are h none =
    all_fine (is_leaf_value primitive.Integer) Integer (int32_fine (is_leaf_value primitive.Integer) within_32) count
    given values rest are h
others_in_range Long b s count given values rest are h none =
    all_fine (is_leaf_value primitive.Long) Long (int64_fine (is_leaf_value primitive.Long) within_64) count given
    values rest are h
others_in_range Date b s count given values rest are h none =
    all_fine (is_leaf_value primitive.Date) Date (int32_fine (is_leaf_value primitive.Date) within_32) count given
    values rest are h
others_in_range String b s count given values rest are h none =
    not_long (is_leaf_value primitive.String) values none
    (all_fine (long_or (is_leaf_value primitive.String)) String
    (text_fine (long_or (is_leaf_value primitive.String)) short_or_long) count given values rest are h)
others_in_range Binary b s count given values rest are h none =
    not_long (is_leaf_value primitive.Binary) values none
    (all_fine (long_or (is_leaf_value primitive.Binary)) Binary
    (binary_fine (long_or (is_leaf_value primitive.Binary)) short_bytes) count given values rest are h)

-- ---- narrow numbers

all_same : (f g : Value → Bool) → ((v : Value) → f v ≡ g v) → (values : List Value)
    → list_all f values ≡ list_all g values
all_same f g same [] = refl
all_same f g same (v ∷ vs) = rw (same v, all_same f g same vs) refl

below : (n most : ℕ) → nat_le n most ≡ nat_lt n (suc most)
below n most =
    elim (cases_lt n (suc most)) [
      | inl lt ↦ rw (lt-ltb n (suc most) lt) (le-leb n most (omega arith))
      | inr le ↦ rw (le-ltb n (suc most) le) (lt-leb n most (omega arith))
    ]

and_true : (b : Bool) → (b && true) ≡ b
and_true true = refl
and_true false = refl

pub bytes_between : (values : List Value)
    → list_all (is_between (negsuc 127) (pos 127)) values ≡ list_all (is_leaf_value primitive.Byte) values
bytes_between = all_same (is_between (negsuc 127) (pos 127)) (is_leaf_value primitive.Byte) same
  where
    same : (v : Value) → is_between (negsuc 127) (pos 127) v ≡ is_leaf_value primitive.Byte v
    same (whole (pos n)) = below n 127
    same (whole (negsuc n)) = and_true (nat_le n 127) ∙ below n 127
    same v = refl

pub shorts_between : (values : List Value)
    → list_all (is_between (negsuc 32767) (pos 32767)) values ≡ list_all (is_leaf_value primitive.Short) values
shorts_between = all_same (is_between (negsuc 32767) (pos 32767)) (is_leaf_value primitive.Short) same
  where
    same : (v : Value) → is_between (negsuc 32767) (pos 32767) v ≡ is_leaf_value primitive.Short v
    same (whole (pos n)) = below n 32767
    same (whole (negsuc n)) = and_true (nat_le n 32767) ∙ below n 32767
    same v = refl
