-- Names that are found, one after the other.
use Rattle.std.proofs.Common.{◌≡◌, ◌||◌, ◌+◌, ◌<◌, ◌++◌, ◌∷◌, [], ℕ, Bool, true, false, cond, List, filter, length, get_or, map, take, append-nil, refl, sym, ap, ◌∙◌}
use Rattle.std.specs.List.{list_any}
use Rattle.std.proofs.lemmas.List.{map_more}
use Rattle.std.proofs.lemmas.List.Elements.{filter-append}
use Rattle.std.proofs.lemmas.List.Folds.{list_any-append}

pub cond_or : (here before : Bool) → cond here true before ≡ (before || here)
cond_or true true = refl
cond_or true false = refl
cond_or false true = refl
cond_or false false = refl

or_false : (before : Bool) → (before || false) ≡ before
or_false true = refl
or_false false = refl

pub or_more : (a b c : Bool) → ((a || b) || c) ≡ (a || (b || c))
or_more true b c = refl
or_more false b c = refl

-- one more
pub any_more : {A B : Type 0} (p : B → Bool) (f : A → B) (xs : List A) (i : ℕ) (x : A) → i < length xs → x ≡ get_or xs i x → list_any p (map f (take (i + 1) xs)) ≡ (list_any p (map f (take i xs)) || p (f x))
any_more p f xs i x more at =
    ap (list_any p) (map_more f xs i x more ∙ ap (λ (y : _). map f (take i xs) ++ f y ∷ []) (sym at)) ∙ (list_any-append p (map f (take i xs)) (f x ∷ []) ∙ ap (λ (b : Bool). list_any p (map f (take i xs)) || b) (or_false (p (f x))))

-- one more that passes a test, or doesn't
module _ {A B : Type 0} (p : B → Bool) (f : A → B) (xs : List A) (i : ℕ) (x : A) (more : i < length xs) (at : x ≡ get_or xs i x) where
  seen : map f (take (i + 1) xs) ≡ map f (take i xs) ++ f x ∷ []
  seen = map_more f xs i x more ∙ ap (λ (y : A). map f (take i xs) ++ f y ∷ []) (sym at)

  pub kept_more : p (f x) ≡ true → filter p (map f (take (i + 1) xs)) ≡ filter p (map f (take i xs)) ++ f x ∷ []
  kept_more passes =
      let last : filter p (f x ∷ []) ≡ f x ∷ [] = rw passes refl in
      ap (filter p) seen ∙ (filter-append p (map f (take i xs)) (f x ∷ []) ∙ ap (λ (ys : List B). filter p (map f (take i xs)) ++ ys) last)

  pub dropped_more : p (f x) ≡ false → filter p (map f (take (i + 1) xs)) ≡ filter p (map f (take i xs))
  dropped_more fails =
      let last : filter p (f x ∷ []) ≡ [] = rw fails refl in
      ap (filter p) seen ∙ (filter-append p (map f (take i xs)) (f x ∷ []) ∙ (ap (λ (ys : List B). filter p (map f (take i xs)) ++ ys) last ∙ append-nil (filter p (map f (take i xs)))))

-- tests that answer alike keep the same
module _ {A : Type 0} (p q : A → Bool) (same : (x : A) → p x ≡ q x) where
  one_kept : (x : A) (xs : List A) (kept : Bool) → q x ≡ kept → filter p xs ≡ filter q xs → filter p (x ∷ xs) ≡ filter q (x ∷ xs)
  one_kept x xs true is later = let own : p x ≡ true = same x ∙ is in rw (own, is) (ap (λ (ys : List A). x ∷ ys) later)
  one_kept x xs false is later = let own : p x ≡ false = same x ∙ is in rw (own, is) later

  pub same_kept : (xs : List A) → filter p xs ≡ filter q xs
  same_kept [] = refl
  same_kept (x ∷ xs) = one_kept x xs (q x) refl (same_kept xs)
