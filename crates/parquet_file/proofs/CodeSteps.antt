-- One step after another, as a loop does: what is still read tells what is read from the start.
use Rattle.std.proofs.Common.{◌≡◌, ℕ, ◌+◌, ◌<◌, length, drop, take, get_or, map, List, [], ◌∷◌, ◌++◌, Option, Some, None, option_map, Result, Ok, Err, refl, sym, ap, ◌∙◌}
use Rattle.std.proofs.lemmas.List.{at_drop_more, map_more}
use Rattle.outcomes.specs.Outcome.{Said, IsSaid}
use Rattle.outcomes.specs.Results.{◌>>=◌}
use Rattle.outcomes.proofs.Callers.{with_front, said_too}
use Rattle.thrift_core.specs.Fields.{each}

-- ---- nothing of it is kept

-- a reading without what it gives
abbrev pub unkept : {A E : Type 0} → Result A E → Result (Unit {0}) E
unkept read = read >>= λ value. Ok tt

unkept_ok : {A E : Type 0} (read : Result A E) → unkept read ≡ Ok tt → (value : A) × (read ≡ Ok value)
unkept_ok (Ok value) h = (value, refl)
unkept_ok (Err e) h = absurd cc

unkept_err : {A E : Type 0} (e : E) (read : Result A E) → unkept read ≡ Err e → read ≡ Err e
unkept_err e (Ok value) h = absurd cc
unkept_err e (Err f) h = cc

unkept_twice : {A E : Type 0} (first : List A) (read : Result (List A) E) → unkept (with_front first read) ≡ unkept read
unkept_twice first (Ok others) = refl
unkept_twice first (Err e) = refl

pub test_on : {A E : Type 0} (first : List A) (whole rest : Result (List A) E) (total : Result (Unit {0}) E) → whole ≡ with_front first rest → unkept whole ≡ total → unkept rest ≡ total
test_on first whole rest total is so_far =
    let one : unkept whole ≡ unkept rest = rw is (unkept_twice first rest) in
    sym one ∙ so_far

pub test_fails : {A B E : Type 0} (said : Said E) (part : Result B E) (whole read : Result (List A) E) → ((e : E) → part ≡ Err e → whole ≡ Err e) → IsSaid said part → unkept whole ≡ unkept read → IsSaid said read
test_fails said part whole read goes h so_far = said_too said part read (λ e is. unkept_err e read (sym so_far ∙ rw (goes e is) refl)) h

pub test_done : {A E : Type 0} (rest read : Result (List A) E) → rest ≡ Ok [] → unkept rest ≡ unkept read → (values : List A) × (read ≡ Ok values)
test_done rest read none so_far =
    let one : unkept rest ≡ Ok tt = rw none refl in
    unkept_ok read (sym so_far ∙ one)

-- ---- each of a list

pub each_none : {A B E : Type 0} (read : A → Result B E) (xs : List A) → xs ≡ [] → each read xs ≡ Ok []
each_none read xs none = rw none refl

-- ---- options

pub map_twice : {A B C : Type 0} (f : B → C) (g : A → B) (o : Option A) → option_map (λ x. f (g x)) o ≡ option_map f (option_map g o)
map_twice f g None = refl
map_twice f g (Some x) = refl

-- ---- lists

-- what is left of a list begins with its next member
pub member_here : {X Y : Type 0} (v : X → Y) (xs : List X) (i : ℕ) (x : X) → i < length xs → x ≡ get_or xs i x → map v (drop i xs) ≡ v x ∷ map v (drop (i + 1) xs)
member_here {X} v xs i x lt is = at_drop_more (λ (ys : List X). map v ys) xs i x lt ∙ ap (λ (y : X). v y ∷ map v (drop (i + 1) xs)) (sym is)

-- the members that were passed, and the next one
pub members_passed : {X Y : Type 0} (v : X → Y) (xs : List X) (i : ℕ) (x : X) → i < length xs → x ≡ get_or xs i x
    → map v (take (i + 1) xs) ≡ map v (take i xs) ++ (v x ∷ [])
members_passed {X} v xs i x lt is =
    map_more v xs i x lt ∙ ap (λ (y : X). map v (take i xs) ++ (v y ∷ [])) (sym is)
