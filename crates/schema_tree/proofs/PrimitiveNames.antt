-- The name of a primitive type is read as that type.
use Rattle.std.proofs.Common.{◌≡◌, ℕ, zero, suc, true≢false, ◌+◌, ◌/◌, ◌%◌, ◌<◌, List, [], ◌∷◌, ◌++◌, Bool, true, false, Option, Some, None, length, refl, ◌∙◌, sym, ap, arith, drop}
use Rattle.std.specs.Prelude.{◌==◌, ◌&&◌, not, nat_eq, nat_lt, nat_le}
use Rattle.std.specs.Fmt.{decimal}
use Rattle.std.specs.List.{list_any, position_or_len, before_first, after_first}
use Rattle.std.proofs.lemmas.Bool.{and_parts, eqb-true, ltb-true, ltb-false, leb-true}
use Rattle.std.proofs.lemmas.Fmt.{decimal_digit, decimal_step}
use Rattle.std.proofs.lemmas.List.{take_at}
use Rattle.std.proofs.Math.Seq.{drop-append-add}
use Rattle.schema_tree.specs.Primitives.{primitive_name, primitive_of, is_primitive, is_decimal, plain_number, before_bracket, decimal_in, decimal_of}
use Rattle.schema_tree.proofs.Truths.{not_true}
use Rattle.schema_tree.specs.declared.primitive.Primitive.{Primitive}
use Rattle.schema_tree.specs.declared.primitive.Primitive.TheVariants.{String, Long, Integer, Short, Byte, Boolean, Binary, Date, Timestamp, Float, Double, Decimal}

-- ---- numbers up to 38

abbrev is_some_of : ℕ → Option ℕ → Bool
is_some_of n None = false
is_some_of n (Some m) = nat_eq m n

abbrev is_comma : ℕ → Bool
is_comma b = b == 44

-- a number below 100 as text, one below 10 or not
abbrev text_by : Bool → ℕ → List ℕ
text_by true n = (48 + n) ∷ []
text_by false n = (48 + n / 10) ∷ (48 + n % 10) ∷ []

abbrev text : ℕ → List ℕ
text n = text_by (nat_lt n 10) n

text_is_by : (n : ℕ) (b : Bool) → nat_lt n 10 ≡ b → n < 39 → decimal n ≡ text_by b n
text_is_by n true e h = decimal_digit n (ltb-true n 10 e)
text_is_by n false e h =
    let least = ltb-false n 10 e in
    decimal_step n least (omega arith) ∙ ap (λ ds. ds ++ (48 + n % 10) ∷ []) (decimal_digit (n / 10) (omega arith))

text_is : (n : ℕ) → n < 39 → decimal n ≡ text n
text_is n h = text_is_by n (nat_lt n 10) refl h

abbrev reads_back : ℕ → Bool
reads_back n = is_some_of n (plain_number (text n)) && not (list_any is_comma (text n))

abbrev all_below : (ℕ → Bool) → ℕ → Bool
all_below f zero = true
all_below f (suc k) = f k && all_below f k

all_read_back : all_below reads_back 39 ≡ true
all_read_back = refl

below_at : (f : ℕ → Bool) (k n : ℕ) (b : Bool) → nat_lt n k ≡ b → n < suc k → f k ≡ true → (n < k → f n ≡ true) → f n ≡ true
below_at f k n true e h here lower = lower (ltb-true n k e)
below_at f k n false e h here lower =
    let least = ltb-false n k e in
    let same : n ≡ k = omega arith in
    ap f same ∙ here

below : (f : ℕ → Bool) (k n : ℕ) → all_below f k ≡ true → n < k → f n ≡ true
below f zero n e h = absurd (omega arith)
below f (suc k) n e h = let parts = and_parts (f k) (all_below f k) e in below_at f k n (nat_lt n k) refl h parts.0 (below f k n parts.1)

some_of : (n : ℕ) (o : Option ℕ) → is_some_of n o ≡ true → o ≡ Some n
some_of n None e = absurd cc
some_of n (Some m) e = ap Some (eqb-true m n e)

both_read : (n : ℕ) → n < 39 → (is_some_of n (plain_number (text n)) ≡ true) × (not (list_any is_comma (text n)) ≡ true)
both_read n h = and_parts (is_some_of n (plain_number (text n))) (not (list_any is_comma (text n))) (below reads_back 39 n all_read_back h)

number_again : (n : ℕ) → n < 39 → plain_number (decimal n) ≡ Some n
number_again n h = ap plain_number (text_is n h) ∙ some_of n (plain_number (text n)) ((both_read n h).0)

no_comma : (n : ℕ) → n < 39 → list_any is_comma (decimal n) ≡ false
no_comma n h = ap (list_any is_comma) (text_is n h) ∙ not_true (list_any is_comma (text n)) ((both_read n h).1)

-- ---- what stands round the comma and before the bracket

comma_at_head : (x : ℕ) (b : Bool) (xs ys : List ℕ) → is_comma x ≡ b → list_any is_comma (x ∷ xs) ≡ false → (list_any is_comma xs ≡ false → position_or_len is_comma (xs ++ 44 ∷ ys) ≡ length xs) → position_or_len is_comma (x ∷ (xs ++ 44 ∷ ys)) ≡ suc (length xs)
comma_at_head x true xs ys is none later = absurd (true≢false (rw is at none))
comma_at_head x false xs ys is none later =
    let rest = later (rw is at none) in
    rw is (rw rest (omega arith))

comma_at : (xs ys : List ℕ) → list_any is_comma xs ≡ false → position_or_len is_comma (xs ++ 44 ∷ ys) ≡ length xs
comma_at [] ys none = refl
comma_at (x ∷ xs) ys none = comma_at_head x (is_comma x) xs ys refl none (comma_at xs ys)

before_comma : (xs ys : List ℕ) → list_any is_comma xs ≡ false → before_first (λ b. b == 44) (xs ++ 44 ∷ ys) ≡ xs
before_comma xs ys none = take_at xs (44 ∷ ys) (position_or_len is_comma (xs ++ 44 ∷ ys)) (sym (comma_at xs ys none))

after_comma : (xs ys : List ℕ) → list_any is_comma xs ≡ false → after_first (λ b. b == 44) (xs ++ 44 ∷ ys) ≡ ys
after_comma xs ys none = ap (λ n. drop (n + 1) (xs ++ 44 ∷ ys)) (comma_at xs ys none) ∙ drop-append-add xs (44 ∷ ys) 1

bracket_again : (xs : List ℕ) → before_bracket (xs ++ 41 ∷ []) ≡ Some xs
bracket_again [] = refl
bracket_again (x ∷ []) = refl
bracket_again (x ∷ y ∷ xs) = rw (bracket_again (y ∷ xs)) refl

-- ---- decimals

decimal_again : (p s : ℕ) → is_decimal p s ≡ true → decimal_in (decimal p ++ 44 ∷ (decimal s ++ 41 ∷ [])) ≡ Some (Decimal p s)
unfolding decimal_in
decimal_again p s is =
    let outer = and_parts (nat_le 1 p && nat_le p 38) (nat_le s p) is in
    let inner = and_parts (nat_le 1 p) (nat_le p 38) outer.0 in
    let most = leb-true p 38 inner.1 in
    let fits = leb-true s p outer.1 in
    rw (before_comma (decimal p) (decimal s ++ 41 ∷ []) (no_comma p (omega arith)), number_again p (omega arith), after_comma (decimal p) (decimal s ++ 41 ∷ []) (no_comma p (omega arith)), bracket_again (decimal s), number_again s (omega arith), is) refl

pub primitive_again : (p : Primitive) → is_primitive p ≡ true → primitive_of (primitive_name p) ≡ Some p
unfolding primitive_of decimal_of
primitive_again String h = refl
primitive_again Long h = refl
primitive_again Integer h = refl
primitive_again Short h = refl
primitive_again Byte h = refl
primitive_again Boolean h = refl
primitive_again Binary h = refl
primitive_again Date h = refl
primitive_again Timestamp h = refl
primitive_again Float h = refl
primitive_again Double h = refl
primitive_again (Decimal p s) h = decimal_again p s h
