-- Steps of a reading that gave a value, and what holds of each of two lists.
use Rattle.std.proofs.Common.{◌≡◌, Bool, true, false, List, [], ◌∷◌, ◌++◌, length, All, Result, Ok, Err, Option, Some, None, refl, ap, subst, suc}
use Rattle.std.specs.List.{AllZip}
use Rattle.std.proofs.lemmas.List.Elements.{All-cons, All-head, All-nil, All-tail}
use Rattle.outcomes.specs.Results.{◌>>=◌, or_refusal, refused_as, refused_if}
use Rattle.thrift_core.specs.Fields.{each}
use Rattle.parquet_footer.proofs.Callers.{bind_ok}

-- ---- steps

-- a refusal that did not come, in front of other steps
pub allowed : {A E : Type 0} (b : Bool) (d : E) (f : Unit {0} → Result A E) (y : A) → (refused_if b d >>= f) ≡ Ok y
    → (b ≡ false) × (f tt ≡ Ok y)
allowed true d f y e = absurd cc
allowed false d f y e = (refl, e)

-- a reading whose faults are told as others
pub given_ok : {A E F : Type 0} (tell : E → F) (r : Result A E) (x : A) → refused_as tell r ≡ Ok x → r ≡ Ok x
given_ok tell (Ok y) x e = cc
given_ok tell (Err d) x e = absurd cc

-- what was there
pub there : {A E : Type 0} (o : Option A) (d : E) (x : A) → or_refusal o d ≡ Ok x → o ≡ Some x
there None d x e = absurd cc
there (Some y) d x e = cc

-- ---- each member

pub each_found : {A B E : Type 0} (read : A → Result B E) (R : A → B → Type 0)
    → ((x : A) (y : B) → read x ≡ Ok y → R x y) → (xs : List A) (ys : List B) → each read xs ≡ Ok ys → AllZip R xs ys
each_found read R found [] [] e = tt
each_found read R found [] (y ∷ ys) e = absurd cc
each_found read R found (x ∷ xs) ys e =
    let first = bind_ok (read x) (λ y. each read xs >>= λ zs. Ok (y ∷ zs)) ys e in
    let rest = bind_ok (each read xs) (λ zs. Ok (first.0 ∷ zs)) ys first.2 in
    let is : first.0 ∷ rest.0 ≡ ys = cc in
    subst (AllZip R (x ∷ xs)) is (found x first.0 first.1, each_found read R found xs rest.0 rest.1)

pub each_again : {A B E : Type 0} (read : A → Result B E) (xs : List A) (ys : List B)
    → AllZip (λ x y. read x ≡ Ok y) xs ys → each read xs ≡ Ok ys
each_again read [] [] all = refl
each_again read [] (y ∷ ys) all = absurd all
each_again read (x ∷ xs) [] all = absurd all
each_again read (x ∷ xs) (y ∷ ys) all = rw (all.0, each_again read xs ys all.1) refl

-- what follows from two facts of each pair
pub zip_both : {A B : Type 0} (P Q R : A → B → Type 0) → ((x : A) (y : B) → P x y → Q x y → R x y) → (xs : List A)
    (ys : List B) → AllZip P xs ys → AllZip Q xs ys → AllZip R xs ys
zip_both P Q R both [] [] p q = tt
zip_both P Q R both [] (y ∷ ys) p q = absurd p
zip_both P Q R both (x ∷ xs) [] p q = absurd p
zip_both P Q R both (x ∷ xs) (y ∷ ys) p q = (both x y p.0 q.0, zip_both P Q R both xs ys p.1 q.1)

pub zip_length : {A B : Type 0} (R : A → B → Type 0) (xs : List A) (ys : List B) → AllZip R xs ys
    → length xs ≡ length ys
zip_length R [] [] all = refl
zip_length R [] (y ∷ ys) all = absurd all
zip_length R (x ∷ xs) [] all = absurd all
zip_length R (x ∷ xs) (y ∷ ys) all = ap suc (zip_length R xs ys all.1)

-- ---- one list behind the other

pub all_first : {X : Type 0} (P : X → Type 0) (xs ys : List X) → All P (xs ++ ys) → All P xs
all_first P [] ys h = All-nil P
all_first P (x ∷ xs) ys h = All-cons P x xs (All-head P x (xs ++ ys) h) (all_first P xs ys (All-tail P x (xs ++ ys) h))

pub all_behind : {X : Type 0} (P : X → Type 0) (xs ys : List X) → All P (xs ++ ys) → All P ys
all_behind P [] ys h = h
all_behind P (x ∷ xs) ys h = all_behind P xs ys (All-tail P x (xs ++ ys) h)
