-- JSON with no space has no newline: one in a text is escaped, and a number has none.
use Rattle.std.proofs.Common.{◌≡◌, ℕ, ◌+◌, ◌/◌, ◌%◌, ◌≤◌, Bool, true, false, cond, not, List, [], ◌∷◌, ◌++◌, drop, Option, Some, None, refl, sym, ap, ◌∙◌, subst, arith, one-add, inl, inr, ◌==◌, ◌&&◌, ◌||◌}
use Rattle.std.specs.Prelude.{option_and_then, nat_lt}
use Rattle.std.specs.List.{prefix_len}
use Rattle.std.specs.Char.{is_ascii_digit, digit_char}
use Rattle.std.proofs.lemmas.Bool.{and_from, cases_lt, lt-ltb, le-ltb}
use Rattle.std.proofs.lemmas.Bool.Decides.{nat_tests}
use Rattle.std.proofs.lemmas.List.Folds.{list_all-append}
use Rattle.json.specs.Token.{Token, begin_object, end_object, begin_array, end_array, key, string, number, boolean, null, bad}
use Rattle.json.specs.Lex.{tokens}
use Rattle.json.specs.Ascii as ascii
use Rattle.json.specs.Word.{head, after_digits, after_minus, after_sign, after_whole, after_fraction, after_exponent, after_number}
use Rattle.json.specs.Print.{escape_letter, escape_byte, escape, quoted, token_text, separator, begins, ends, print_from, print, IsNumber, IsPrintableOrBad, ArePrintableOrBad}
use Rattle.json.proofs.Numbered.{ArePrintableOrBad-tokens}
use Rattle.json.specs.Json as json
use Rattle.json.specs.Json.{Json}
use Rattle.json.specs.Tree.{json_tokens, members_tokens}
use Rattle.serde_json.specs.Data.{object, Members}
use Rattle.serde_json.specs.Written.{outline, blank, IsInOrder}
use Rattle.json_fields.specs.Lines.{IsOneLine}

abbrev is_clean : ℕ → Bool
is_clean b = not (b == 10)

joined : (xs ys : List ℕ) → IsOneLine xs → IsOneLine ys → IsOneLine (xs ++ ys)
joined xs ys h k = list_all-append is_clean xs ys ∙ and_from _ _ h k

-- ---- numbers

not_newline : (b : ℕ) → (b ≡ 10 → ⊥) → is_clean b ≡ true
not_newline b apart = grind (arith, nat_tests)

-- a byte in front that is no newline
with_first : (n : ℕ) (t : List ℕ) → (n ≡ 10 → ⊥) → (head t == n) ≡ true → IsOneLine (drop 1 t) → IsOneLine t
with_first n [] apart h k = refl
with_first n (b ∷ t) apart h k =
    let same : b ≡ n = grind (arith, nat_tests) in
    let clean : is_clean b ≡ true = not_newline b (λ e. apart (sym same ∙ e)) in
    and_from _ _ clean k

digit_clean : (b : ℕ) → is_ascii_digit b ≡ true → is_clean b ≡ true
digit_clean b h = grind (arith, nat_tests)

digits_step : (b : ℕ) (t : List ℕ) (digit : Bool) → is_ascii_digit b ≡ digit → IsOneLine (drop (cond digit (1 + prefix_len is_ascii_digit t) 0) (b ∷ t)) → (IsOneLine (drop (prefix_len is_ascii_digit t) t) → IsOneLine t) → IsOneLine (b ∷ t)
digits_step b t true e h behind = and_from _ _ (digit_clean b e) (behind (rw one-add at h))
digits_step b t false e h behind = h

digits_clean : (t : List ℕ) → IsOneLine (drop (prefix_len is_ascii_digit t) t) → IsOneLine t
digits_clean [] h = refl
digits_clean (b ∷ t) h = digits_step b t (is_ascii_digit b) refl h (λ k. digits_clean t k)

cond_some : (b : Bool) (x r : List ℕ) → cond b None (Some x) ≡ Some r → x ≡ r
cond_some true x r e = absurd cc
cond_some false x r e = cc

after_digits_clean : (t r : List ℕ) → after_digits t ≡ Some r → IsOneLine r → IsOneLine t
after_digits_clean t r e h =
    let is : drop (prefix_len is_ascii_digit t) t ≡ r = cond_some _ _ _ e in
    digits_clean t (subst IsOneLine (sym is) h)

-- behind a byte that is no newline, or the same
skipped_clean : (b : Bool) (n : ℕ) (t : List ℕ) → (n ≡ 10 → ⊥) → (head t == n) ≡ b → IsOneLine (cond b (drop 1 t) t) → IsOneLine t
skipped_clean true n t apart e h = with_first n t apart e h
skipped_clean false n t apart e h = h

minus_is : ascii.minus ≡ 10 → ⊥
minus_is e = absurd (omega arith)

after_minus_clean : (t : List ℕ) → IsOneLine (after_minus t) → IsOneLine t
after_minus_clean t h = skipped_clean (head t == ascii.minus) ascii.minus t minus_is refl h

-- one of two bytes
either_clean : (a b : Bool) (m n : ℕ) (t : List ℕ) → (m ≡ 10 → ⊥) → (n ≡ 10 → ⊥) → (head t == m) ≡ a → (head t == n) ≡ b → IsOneLine (cond (a || b) (drop 1 t) t) → IsOneLine t
either_clean true b m n t p q e f h = with_first m t p e h
either_clean false true m n t p q e f h = with_first n t q f h
either_clean false false m n t p q e f h = h

plus_is : ascii.plus ≡ 10 → ⊥
plus_is e = absurd (omega arith)

after_sign_clean : (t : List ℕ) → IsOneLine (after_sign t) → IsOneLine t
after_sign_clean t h = either_clean (head t == ascii.minus) (head t == ascii.plus) ascii.minus ascii.plus t minus_is plus_is refl refl h

some_is : (x r : List ℕ) → Some x ≡ Some r → x ≡ r
some_is x r e = cc

after_whole_clean : (t r : List ℕ) → after_whole t ≡ Some r → IsOneLine r → IsOneLine t
after_whole_clean t r e h = by_case (head t == ascii.zero) refl e
  where
    zero_is : ascii.zero ≡ 10 → ⊥
    zero_is x = absurd (omega arith)

    by_case : (b : Bool) → (head t == ascii.zero) ≡ b → cond b (Some (drop 1 t)) (after_digits t) ≡ Some r → IsOneLine t
    by_case true z k = with_first ascii.zero t zero_is z (subst IsOneLine (sym (some_is (drop 1 t) r k)) h)
    by_case false z k = after_digits_clean t r k h

after_fraction_clean : (t r : List ℕ) → after_fraction t ≡ Some r → IsOneLine r → IsOneLine t
after_fraction_clean t r e h = by_case (head t == ascii.dot) refl e
  where
    dot_is : ascii.dot ≡ 10 → ⊥
    dot_is x = absurd (omega arith)

    by_case : (b : Bool) → (head t == ascii.dot) ≡ b → cond b (after_digits (drop 1 t)) (Some t) ≡ Some r → IsOneLine t
    by_case true z k = with_first ascii.dot t dot_is z (after_digits_clean (drop 1 t) r k h)
    by_case false z k = subst IsOneLine (sym (some_is t r k)) h

after_exponent_clean : (t r : List ℕ) → after_exponent t ≡ Some r → IsOneLine r → IsOneLine t
after_exponent_clean t r e h = by_case (head t == ascii.lower_e) (head t == ascii.upper_e) refl refl e
  where
    lower_is : ascii.lower_e ≡ 10 → ⊥
    lower_is x = absurd (omega arith)

    upper_is : ascii.upper_e ≡ 10 → ⊥
    upper_is x = absurd (omega arith)

    inner : after_digits (after_sign (drop 1 t)) ≡ Some r → IsOneLine (drop 1 t)
    inner k = after_sign_clean (drop 1 t) (after_digits_clean (after_sign (drop 1 t)) r k h)

    by_case : (a b : Bool) → (head t == ascii.lower_e) ≡ a → (head t == ascii.upper_e) ≡ b → cond (a || b) (after_digits (after_sign (drop 1 t))) (Some t) ≡ Some r → IsOneLine t
    by_case true b x y k = with_first ascii.lower_e t lower_is x (inner k)
    by_case false true x y k = with_first ascii.upper_e t upper_is y (inner k)
    by_case false false x y k = subst IsOneLine (sym (some_is t r k)) h

chained : (o : Option (List ℕ)) (f : List ℕ → Option (List ℕ)) (r : List ℕ) → option_and_then f o ≡ Some r → (x : List ℕ) × (o ≡ Some x) × (f x ≡ Some r)
chained None f r e = absurd cc
chained (Some x) f r e = (x, refl, e)

number_clean : (s : List ℕ) → IsNumber s → IsOneLine s
unfolding after_number
number_clean s e =
    let exponent = chained (option_and_then after_fraction (after_whole (after_minus s))) after_exponent [] e in
    let fraction = chained (after_whole (after_minus s)) after_fraction exponent.0 exponent.1 in
    after_minus_clean s
    (after_whole_clean (after_minus s) fraction.0 fraction.1
    (after_fraction_clean fraction.0 exponent.0 fraction.2
    (after_exponent_clean exponent.0 [] exponent.2 refl)))

-- ---- texts

above_clean : (b : ℕ) → 11 ≤ b → is_clean b ≡ true
above_clean b h = not_newline b (λ e. absurd (omega arith))

digit_char_clean : (n : ℕ) → is_clean (digit_char n) ≡ true
digit_char_clean n = grind (arith, nat_tests)

letter_clean : (x : ℕ) → is_clean (escape_letter x) ≡ true
letter_clean x = grind (arith, nat_tests)

unescaped : (x : ℕ) → escape_letter x ≡ 0 → x ≡ 10 → ⊥
unescaped x h e = grind (arith, nat_tests)

two_clean : (a b : ℕ) → is_clean a ≡ true → is_clean b ≡ true → IsOneLine (a ∷ b ∷ [])
two_clean a b h k = and_from _ _ h (and_from _ _ k refl)

one_clean : (a : ℕ) → is_clean a ≡ true → IsOneLine (a ∷ [])
one_clean a h = and_from _ _ h refl

hex_clean : (a b : ℕ) → is_clean a ≡ true → is_clean b ≡ true → IsOneLine (92 ∷ 117 ∷ 48 ∷ 48 ∷ a ∷ b ∷ [])
hex_clean a b h k = two_clean a b h k

escaped : (l x : ℕ) → is_clean l ≡ true → (l ≡ 0 → x ≡ 10 → ⊥)
    → IsOneLine (cond (nat_lt 0 l) (92 ∷ l ∷ []) (cond (nat_lt x 32) (92 ∷ 117 ∷ 48 ∷ 48 ∷ digit_char (x / 16) ∷ digit_char (x % 16) ∷ []) (x ∷ [])))
escaped l x clean apart =
    elim (cases_lt 0 l) [
      | inl lt ↦ rw (lt-ltb 0 l lt) (one_clean l clean)
      | inr le ↦ rw (le-ltb 0 l le) (elim (cases_lt x 32) [
        | inl lt ↦ rw (lt-ltb x 32 lt) (hex_clean (digit_char (x / 16)) (digit_char (x % 16)) (digit_char_clean (x / 16)) (digit_char_clean (x % 16)))
        | inr ge ↦ rw (le-ltb x 32 ge) (one_clean x (above_clean x (omega arith)))
      ])
    ]

escape_byte_clean : (x : ℕ) → IsOneLine (escape_byte x)
unfolding escape_byte
escape_byte_clean x = escaped (escape_letter x) x (letter_clean x) (unescaped x)

escape_clean : (s : List ℕ) → IsOneLine (escape s)
escape_clean [] = refl
escape_clean (x ∷ s) = joined (escape_byte x) (escape s) (escape_byte_clean x) (escape_clean s)

quoted_clean : (s : List ℕ) → IsOneLine (quoted s)
quoted_clean s = joined (escape s) (34 ∷ []) (escape_clean s) refl

-- ---- tokens

token_clean : (t : Token) → IsPrintableOrBad t → IsOneLine (token_text t)
token_clean begin_object h = refl
token_clean end_object h = refl
token_clean begin_array h = refl
token_clean end_array h = refl
token_clean (key s) h = joined (quoted s) (58 ∷ []) (quoted_clean s) refl
token_clean (string s) h = quoted_clean s
token_clean (number s) h = number_clean s h
token_clean (boolean true) h = refl
token_clean (boolean false) h = refl
token_clean null h = refl
token_clean bad h = refl

separator_clean : (b : Bool) → IsOneLine (cond b (44 ∷ []) [])
separator_clean true = refl
separator_clean false = refl

print_clean : (after : Bool) (ts : List Token) → ArePrintableOrBad ts → IsOneLine (print_from after ts)
unfolding print_from
print_clean after [] h = refl
print_clean after (t ∷ ts) h =
    joined (separator after t) (token_text t ++ print_from (ends t) ts) (separator_clean (after && begins t))
    (joined (token_text t) (print_from (ends t) ts) (token_clean t h.0) (print_clean (ends t) ts h.1))

pub compact_is_one_line : (text : List ℕ) → text ≡ print (tokens text) → IsOneLine text
compact_is_one_line text e = subst IsOneLine (sym e) (print_clean false (tokens text) (ArePrintableOrBad-tokens text))

-- ---- an object

-- what begins with a brace
opened : (ts : List Token) → (rest : List ℕ) × (print (begin_object ∷ ts) ≡ 123 ∷ rest)
unfolding print_from
opened ts = (_, refl)

object_tokens : (j : Json) (ms : Members) → blank j ≡ outline (object ms) → (ts : List Token) × (json_tokens j ≡ begin_object ∷ ts)
object_tokens json.null ms h = absurd cc
object_tokens (json.boolean b) ms h = absurd cc
object_tokens (json.number s) ms h = absurd cc
object_tokens (json.string s) ms h = absurd cc
object_tokens (json.array js) ms h = absurd cc
object_tokens (json.object js) ms h = (members_tokens js, refl)

pub compact_object_opens : (text : List ℕ) (ms : Members) → text ≡ print (tokens text) → IsInOrder text (object ms) → (rest : List ℕ) × (text ≡ 123 ∷ rest)
compact_object_opens text ms e order =
    let o = object_tokens order.0 ms order.2 in
    let begun = opened o.0 in
    (begun.0, e ∙ ap print (order.1 ∙ o.1) ∙ begun.1)
