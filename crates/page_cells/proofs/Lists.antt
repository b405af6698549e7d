-- What holds of each element of a list, and the test of it.
use Rattle.std.proofs.Common.{◌≡◌, refl, Bool, true, List, [], ◌∷◌, ◌++◌, All}
use Rattle.std.specs.List.{list_all}
use Rattle.std.proofs.lemmas.Bool.{and_from, and_parts}
use Rattle.std.proofs.lemmas.List.Elements.{All-nil, All-cons, All-head, All-tail}

pub all_pass : {X : Type 0} (test : X → Bool) (xs : List X) → list_all test xs ≡ true → All (λ x. test x ≡ true) xs
all_pass test [] e = All-nil (λ x. test x ≡ true)
all_pass test (x ∷ xs) e =
    let k = and_parts (test x) (list_all test xs) e in
    All-cons (λ x. test x ≡ true) x xs k.0 (all_pass test xs k.1)

pub pass_all : {X : Type 0} (test : X → Bool) (xs : List X) → All (λ x. test x ≡ true) xs → list_all test xs ≡ true
pass_all test [] h = refl
pass_all test (x ∷ xs) h =
    and_from (test x) (list_all test xs) (All-head (λ x. test x ≡ true) x xs h)
    (pass_all test xs (All-tail (λ x. test x ≡ true) x xs h))

-- what holds of each of two lists, one behind the other
pub all_first : {X : Type 0} (P : X → Type 0) (xs ys : List X) → All P (xs ++ ys) → All P xs
all_first P [] ys h = All-nil P
all_first P (x ∷ xs) ys h = All-cons P x xs (All-head P x (xs ++ ys) h) (all_first P xs ys (All-tail P x (xs ++ ys) h))

pub all_behind : {X : Type 0} (P : X → Type 0) (xs ys : List X) → All P (xs ++ ys) → All P ys
all_behind P [] ys h = h
all_behind P (x ∷ xs) ys h = all_behind P xs ys (All-tail P x (xs ++ ys) h)
