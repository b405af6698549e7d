-- The name of a decimal, taken apart as the code does.
use Rattle.std.proofs.Common.{◌≡◌, ℕ, ◌+◌, ◌-◌, ◌≤◌, Bool, true, false, cond, eqb, ltb, List, [], ◌∷◌, ◌++◌, length, take, drop, Option, Some, None, option_map, refl, sym, ◌∙◌, arith}
use Rattle.std.specs.List.{position_or_len}
use Rattle.std.proofs.lemmas.List.{drop_all, take_all, length-drop}
use Rattle.std.proofs.lemmas.Option.{cond_some}
use Rattle.std.proofs.lemmas.Bool.{ne_eqb}
use Rattle.std.proofs.lemmas.Bool.Decides.{nat_tests}
use Rattle.outcomes.specs.Options.{◌>>=◌}
use Rattle.schema_tree.specs.declared.primitive.Primitive.{Primitive}
use Rattle.schema_tree.specs.Primitives.{plain_number, before_bracket, decimal_type, decimal_in}

abbrev pub is_comma : ℕ → Bool
is_comma b = eqb b 44

abbrev pub comma_of : List ℕ → ℕ
comma_of text = position_or_len is_comma text

-- what `position` gives
abbrev pub place_of_comma : List ℕ → Option ℕ
place_of_comma text = cond (ltb (comma_of text) (length text)) (Some (comma_of text)) None

abbrev of_parts : List ℕ → List ℕ → Option Primitive
of_parts front after = plain_number front >>= λ precision. before_bracket after >>= λ inside. plain_number inside >>= λ scale. decimal_type precision scale

in_parts : (text : List ℕ) (k : ℕ) → place_of_comma text ≡ Some k → decimal_in text ≡ of_parts (take k text) (drop (k + 1) text)
unfolding decimal_in
in_parts text k is = let at = cond_some (ltb (comma_of text) (length text)) (comma_of text) k is in rw (← at.1) refl

abbrev nothing : ℕ → Option Primitive
nothing n = None

none_after : (o : Option ℕ) → (o >>= nothing) ≡ None
none_after None = refl
none_after (Some n) = refl

past : (a b : ℕ) (x : ℕ) → cond (ltb a b) (Some x) None ≡ None → b ≤ a
past a b x h = grind (arith, nat_tests)

pub no_comma : (text : List ℕ) → place_of_comma text ≡ None → None ≡ decimal_in text
unfolding decimal_in
no_comma text is =
    let le : length text ≤ comma_of text + 1 = let e = past (comma_of text) (length text) (comma_of text) is in omega arith in
    let none : drop (comma_of text + 1) text ≡ [] = drop_all (comma_of text + 1) text le in
    rw none (sym (none_after (plain_number (take (comma_of text) text))))

pub bad_precision : (text : List ℕ) (k : ℕ) → place_of_comma text ≡ Some k → None ≡ plain_number (take k text) → None ≡ decimal_in text
bad_precision text k is bad = rw (in_parts text k is, ← bad) refl

keeps : (x : ℕ) (xs : List ℕ) (b : Bool) → option_map (λ text. x ∷ text) (cond b (Some xs) None) ≡ cond b (Some (x ∷ xs)) None
keeps x xs true = refl
keeps x xs false = refl

before_bracket_last : (inside : List ℕ) (b : ℕ) → before_bracket (inside ++ b ∷ []) ≡ cond (eqb b 41) (Some inside) None
before_bracket_last [] b = refl
before_bracket_last (x ∷ []) b = rw (before_bracket_last [] b) (keeps x [] (eqb b 41))
before_bracket_last (x ∷ y ∷ inside) b = rw (before_bracket_last (y ∷ inside) b) (keeps x (y ∷ inside) (eqb b 41))

-- the text behind the comma, up to the end of the whole
whole_rest : (text : List ℕ) (n : ℕ) → take (length text - n) (drop n text) ≡ drop n text
whole_rest text n = take_all (length text - n) (drop n text) (omega (arith, length-drop n text))

pub bad_bracket : (text inside : List ℕ) (k b : ℕ) → place_of_comma text ≡ Some k → take (length text - (k + 1)) (drop (k + 1) text) ≡ inside ++ b ∷ [] → (b ≡ 41 → ⊥) → None ≡ decimal_in text
bad_bracket text inside k b is rest ne =
    let after : drop (k + 1) text ≡ inside ++ b ∷ [] = sym (whole_rest text (k + 1)) ∙ rest in
    rw (in_parts text k is, after, before_bracket_last inside b, ne_eqb b 41 ne) (sym (none_after (plain_number (take k text))))

in_bracket : (text inside : List ℕ) (k b : ℕ) → place_of_comma text ≡ Some k → take (length text - (k + 1)) (drop (k + 1) text) ≡ inside ++ b ∷ [] → b ≡ 41
    → decimal_in text ≡ (plain_number (take k text) >>= λ precision. plain_number inside >>= λ scale. decimal_type precision scale)
in_bracket text inside k b is rest closes =
    let after : drop (k + 1) text ≡ inside ++ b ∷ [] = sym (whole_rest text (k + 1)) ∙ rest in
    rw (in_parts text k is, after, before_bracket_last inside b, closes) refl

pub bad_scale : (text inside : List ℕ) (k b : ℕ) → place_of_comma text ≡ Some k → take (length text - (k + 1)) (drop (k + 1) text) ≡ inside ++ b ∷ [] → b ≡ 41 → None ≡ plain_number inside → None ≡ decimal_in text
bad_scale text inside k b is rest closes bad = rw (in_bracket text inside k b is rest closes, ← bad) (sym (none_after (plain_number (take k text))))

-- both numbers are there
pub both_numbers : (text inside : List ℕ) (k b p s : ℕ) → place_of_comma text ≡ Some k → take (length text - (k + 1)) (drop (k + 1) text) ≡ inside ++ b ∷ [] → b ≡ 41
    → Some p ≡ plain_number (take k text) → Some s ≡ plain_number inside → decimal_in text ≡ decimal_type p s
both_numbers text inside k b p s is rest closes precision scale = rw (in_bracket text inside k b is rest closes, ← precision, ← scale) refl
