-- Members of a list: those of its front, and the one that fails a test or passes it.
use Rattle.std.proofs.Common.{◌≡◌, Bool, true, false, List, [], ◌∷◌, inl, inr}
use Rattle.std.specs.Prelude.{All, Contains}
use Rattle.std.specs.List.{list_all, list_any}
use Rattle.std.proofs.lemmas.Bool.{and_cases, and_parts, or_cases, or_parts}
use Rattle.std.proofs.lemmas.List.Elements.{All-cons, All-head, All-nil, All-tail, Contains-append_left, Contains-append_right, Contains-push}

pub first_inside : {X : Type 0} (x : X) (xs : List X) → Contains (x ∷ xs) x
first_inside x xs = Contains-append_left (x ∷ []) xs x (Contains-push [] x)

pub behind_inside : {X : Type 0} (x y : X) (xs : List X) → Contains xs y → Contains (x ∷ xs) y
behind_inside x y xs h = Contains-append_right (x ∷ []) xs y h

pub all_weaker : {X : Type 0} (P Q : X → Type 0) → ((x : X) → P x → Q x) → (xs : List X) → All P xs → All Q xs
all_weaker P Q step [] h = All-nil Q
all_weaker P Q step (x ∷ xs) h = All-cons Q x xs (step x (All-head P x xs h)) (all_weaker P Q step xs (All-tail P x xs h))

-- a member that fails a test that not all pass
pub failing : {X : Type 0} (p : X → Bool) (xs : List X) → list_all p xs ≡ false → (x : X) × Contains xs x × (p x ≡ false)
failing p [] e = absurd cc
failing p (x ∷ xs) e = elim (and_cases (p x) (list_all p xs) e) [
  | inl here ↦ (x, first_inside x xs, here)
  | inr more ↦ let found = failing p xs more in (found.0, behind_inside x found.0 xs found.1, found.2)
]

-- a member that passes a test that some pass
pub passing : {X : Type 0} (p : X → Bool) (xs : List X) → list_any p xs ≡ true → (x : X) × Contains xs x × (p x ≡ true)
passing p [] e = absurd cc
passing p (x ∷ xs) e = elim (or_cases (p x) (list_any p xs) e) [
  | inl here ↦ (x, first_inside x xs, here)
  | inr more ↦ let found = passing p xs more in (found.0, behind_inside x found.0 xs found.1, found.2)
]

pub none_pass : {X : Type 0} (p : X → Bool) (xs : List X) → list_any p xs ≡ false → All (λ x. p x ≡ false) xs
none_pass p [] e = All-nil (λ x. p x ≡ false)
none_pass p (x ∷ xs) e = let k = or_parts (p x) (list_any p xs) e in All-cons (λ x. p x ≡ false) x xs k.0 (none_pass p xs k.1)

pub all_pass : {X : Type 0} (p : X → Bool) (xs : List X) → list_all p xs ≡ true → All (λ x. p x ≡ true) xs
all_pass p [] e = All-nil (λ x. p x ≡ true)
all_pass p (x ∷ xs) e = let k = and_parts (p x) (list_all p xs) e in All-cons (λ x. p x ≡ true) x xs k.0 (all_pass p xs k.1)
