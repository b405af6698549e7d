-- What the least version among names tells.
use Rattle.std.proofs.Common.{◌≡◌, ℕ, ◌+◌, ◌-◌, ◌<◌, ◌≤◌, List, [], ◌∷◌, length, map, drop, slice_index_or, Option, Some, None, String, Global, string_bytes, leb, refl, sym, ap, subst, ◌∙◌, arith, inl, inr, ◌⊎◌}
use Rattle.std.specs.List.{filter_map}
use Rattle.std.proofs.lemmas.Bool.{cases_Bool, leb-true, leb-false}
use Rattle.std.proofs.lemmas.List.{drop_more}
use Rattle.table_check.specs.Named.{least_named, lesser, named_from, unless_before, version_named}
use Rattle.table_check.proofs.Counts.{Among}

-- a version that isn't before another is told
from_told : (from : ℕ) (found : Option ℕ) (version : ℕ) → found ≡ Some version → from ≤ version → unless_before from found ≡ Some version
from_told from None version is low = absurd cc
from_told from (Some v) version is low =
    let same : v ≡ version = cc in
    elim (cases_Bool (leb from v)) [
      | inl fits ↦ rw fits (ap (λ (n : ℕ). Some n) same)
      | inr past ↦ absurd (omega (arith, leb-false from v past, same))
    ]

-- the lesser of two is at most the first
lesser_first : (version : ℕ) (other : Option ℕ) → (least : ℕ) × (lesser (Some version) other ≡ Some least) × (least ≤ version)
lesser_first version None = (version, refl, omega arith)
lesser_first version (Some other) =
    elim (cases_Bool (leb version other)) [
      | inl fits ↦ (version, rw fits refl, omega arith)
      | inr past ↦ (other, rw past refl, omega (arith, leb-false version other past))
    ]

-- and at most the second
lesser_second : (one : Option ℕ) (version : ℕ) → (least : ℕ) × (lesser one (Some version) ≡ Some least) × (least ≤ version)
lesser_second None version = (version, refl, omega arith)
lesser_second (Some one) version =
    elim (cases_Bool (leb one version)) [
      | inl fits ↦ (one, rw fits refl, leb-true one version fits)
      | inr past ↦ (version, rw past refl, omega arith)
    ]

some_lesser : (one other : Option ℕ) (version : ℕ) → other ≡ Some version → (least : ℕ) × (lesser one other ≡ Some least) × (least ≤ version)
some_lesser one other version is = subst (λ (o : Option ℕ). (least : ℕ) × (lesser one o ≡ Some least) × (least ≤ version)) (sym is) (lesser_second one version)

first_lesser : (one other : Option ℕ) (version : ℕ) → one ≡ Some version → (least : ℕ) × (lesser one other ≡ Some least) × (least ≤ version)
first_lesser one other version is = subst (λ (o : Option ℕ). (least : ℕ) × (lesser o other ≡ Some least) × (least ≤ version)) (sym is) (lesser_first version other)

-- Where a name among these is of a version that isn't before another, the least that is told is at most this version.
pub least_is : (from : ℕ) (names : List (List ℕ)) (name : List ℕ) (version : ℕ) → Among name names → version_named name ≡ Some version → from ≤ version
    → (least : ℕ) × (least_named from names ≡ Some least) × (least ≤ version)
least_is from [] name version has of low = absurd has
least_is from (first ∷ names) name version (inl is) of low =
    first_lesser (named_from from first) (least_named from names) version (from_told from (version_named first) version (ap version_named (sym is) ∙ of) low)
least_is from (first ∷ names) name version (inr more) of low =
    let later = least_is from names name version more of low in
    let both = some_lesser (named_from from first) (least_named from names) later.0 later.1 in
    (both.0, both.1, omega (arith, both.2, later.2))

-- what is told isn't before
told_from : (from : ℕ) (found : Option ℕ) (version : ℕ) → unless_before from found ≡ Some version → from ≤ version
told_from from None version is = absurd cc
told_from from (Some v) version is =
    elim (cases_Bool (leb from v)) [
      | inl fits ↦ let same : Some v ≡ Some version = rw fits at is in let one : v ≡ version = cc in omega (arith, one, leb-true from v fits)
      | inr past ↦ let none : None ≡ Some version = rw past at is in absurd cc
    ]

-- the lesser is one of the two
pub one_of : (one other : Option ℕ) (least : ℕ) → lesser one other ≡ Some least → (one ≡ Some least) ⊎ (other ≡ Some least)
one_of None other least is = inr is
one_of (Some one) None least is = inl is
one_of (Some one) (Some other) least is =
    elim (cases_Bool (leb one other)) [
      | inl fits ↦ inl (rw fits at is)
      | inr past ↦ inr (rw past at is)
    ]

pub least_low : (from : ℕ) (names : List (List ℕ)) (least : ℕ) → least_named from names ≡ Some least → from ≤ least
least_low from [] least is = absurd cc
least_low from (name ∷ names) least is =
    elim (one_of (named_from from name) (least_named from names) least is) [
      | inl first ↦ told_from from (version_named name) least first
      | inr later ↦ least_low from names least later
    ]

-- one name more in front of those that were looked at
pub least_more : (from : ℕ) (names : List (String Global)) (left : ℕ) (name : String Global) (text : List ℕ) (one found next : Option ℕ) → 0 < left → left ≤ length names → name ≡ slice_index_or names (left - 1) name → text ≡ string_bytes name
    → found ≡ least_named from (map string_bytes (drop left names)) → one ≡ named_from from text → next ≡ lesser one found → next ≡ least_named from (map string_bytes (drop (left - 1) names))
least_more from names left name text one found next some short at told so_far first is =
    let behind : left - 1 + 1 ≡ left = omega (arith, some) in
    let here : drop (left - 1) names ≡ name ∷ drop left names =
    drop_more names (left - 1) name (omega (arith, some, short))
    ∙ (ap (λ (n : String Global). n ∷ drop (left - 1 + 1) names) (sym at) ∙ ap (λ (i : ℕ). name ∷ drop i names) behind) in
    is ∙ (ap (λ (o : Option ℕ). lesser o found) (first ∙ ap (named_from from) told) ∙ (ap (lesser (named_from from (string_bytes name))) so_far ∙ ap (λ (rest : List (String Global)). least_named from (map string_bytes rest)) (sym here)))

-- ---- members of what is picked from a list

picked_behind : {A B : Type 0} (f : A → Option B) (z : A) (xs : List A) (y : B) (found : Option B) → f z ≡ found → Among y (filter_map f xs) → Among y (filter_map f (z ∷ xs))
picked_behind f z xs y None is among = rw is among
picked_behind f z xs y (Some w) is among = rw is (inr among)

pub picked : {A B : Type 0} (f : A → Option B) (xs : List A) (x : A) (y : B) → Among x xs → f x ≡ Some y → Among y (filter_map f xs)
picked f [] x y has is = absurd has
picked f (z ∷ xs) x y (inl same) is = let here : f z ≡ Some y = ap f (sym same) ∙ is in rw here (inl refl)
picked f (z ∷ xs) x y (inr more) is = picked_behind f z xs y (f z) refl (picked f xs x y more is)
