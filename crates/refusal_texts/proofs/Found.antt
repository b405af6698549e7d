-- Where an entry is found: a code is found exactly where it is one of the codes of the entries.
use Rattle.std.proofs.Common.{◌≡◌, ◌∙◌, ap, refl, ℕ, Bool, true, false, cond, ◌||◌, List, [], ◌∷◌, map, Option, Some, None, is_some, option_map, Bor}
use Rattle.std.specs.Prelude.{find}
use Rattle.std.specs.List.{list_any}
use Rattle.std.specs.Option.{option_or}
use Rattle.refusal_texts.specs.declared.refusal.Refusal.{Refusal}

is_some-cond : (b : Bool) (entry : Refusal) (found : Option Refusal) (listed : Bool) → is_some found ≡ listed → is_some (cond b (Some entry) found) ≡ (b || listed)
is_some-cond true entry found listed same = refl
is_some-cond false entry found listed same = same

-- an entry whose code passes a test is found exactly where one of the codes passes it
is_some-find : (test : List ℕ → Bool) (entries : List Refusal) → is_some (find (λ entry. test entry.code.now) entries) ≡ list_any test (map (λ entry. entry.code.now) entries)
is_some-find test [] = refl
is_some-find test (entry ∷ entries) = is_some-cond (test entry.code.now) entry _ _ (is_some-find test entries)

is_some-or : (one two : Option (Bor Refusal)) → is_some (option_or one two) ≡ (is_some one || is_some two)
is_some-or None two = refl
is_some-or (Some entry) two = refl

is_some-now : (one : Option (Bor Refusal)) → is_some one ≡ is_some (option_map (λ entry. entry.now) one)
is_some-now None = refl
is_some-now (Some entry) = refl

-- of one table
pub is_some-found : (test : List ℕ → Bool) (entries : List Refusal) (listed : List (List ℕ)) (one : Option (Bor Refusal)) → option_map (λ entry. entry.now) one ≡ find (λ entry. test entry.code.now) entries → map (λ entry. entry.code.now) entries ≡ listed
    → is_some one ≡ list_any test listed
is_some-found test entries listed one found same = is_some-now one ∙ ap is_some found ∙ is_some-find test entries ∙ ap (λ (codes : List (List ℕ)). list_any test codes) same

-- of the two tables
pub is_some-either : (a b : Bool) (one two : Option (Bor Refusal)) → is_some one ≡ a → is_some two ≡ b → is_some (option_or one two) ≡ (a || b)
is_some-either a b one two first second = is_some-or one two ∙ ap (λ c. c || is_some two) first ∙ ap (λ c. a || c) second
