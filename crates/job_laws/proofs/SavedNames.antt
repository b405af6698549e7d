-- Fronts of the names that are to be saved, where these are one or two at most.
use Rattle.std.proofs.Common.{◌≡◌, ◌++◌, ◌∷◌, [], ◌⊎◌, inl, inr, ℕ, zero, suc, Bool, true, false, List, take, append-nil, refl, sym, ◌∙◌, ap, subst}
use Rattle.std.specs.Prelude.{◌||◌, bytes_eq}
use Rattle.std.specs.List.{list_any}
use Rattle.std.proofs.lemmas.Slice.Eq.{bytes_eq-Decides}
use Rattle.store_core.specs.Objects.{Objects}
use Rattle.table_folder.specs.Copies.{HasSavedFront, with_copies, with_copy}
use Rattle.table_folder.proofs.Callers.{IsApart}

-- a test has one value
pub not_both : true ≡ false → ⊥
not_both e = cc

-- the first name is listed
first_listed : (n : List ℕ) (ns : List (List ℕ)) → list_any (bytes_eq n) (n ∷ ns) ≡ true
first_listed n ns = ap (λ b. b || list_any (bytes_eq n) ns) ((bytes_eq-Decides n n).1 refl)

-- where no name is listed there are none
pub none_listed : (ns : List (List ℕ)) → ((m : List ℕ) → list_any (bytes_eq m) ns ≡ true → ⊥) → ns ≡ []
none_listed [] none = refl
none_listed (n ∷ ns) none = absurd (none n (first_listed n ns))

-- where no name is listed but one, and none twice, it is there alone or not at all
pub one_at_most : (name : List ℕ) (ns : List (List ℕ)) → IsApart ns → ((m : List ℕ) → list_any (bytes_eq m) ns ≡ true → m ≡ name) → (ns ≡ []) ⊎ (ns ≡ name ∷ [])
one_at_most name [] apart only = inl refl
one_at_most name (n ∷ []) apart only = inr (ap (λ (m : List ℕ). m ∷ []) (only n (first_listed n [])))
one_at_most name (n ∷ k ∷ ns) apart only =
    let second : list_any (bytes_eq k) (n ∷ k ∷ ns) ≡ true = later (bytes_eq k n) (list_any (bytes_eq k) (k ∷ ns)) (first_listed k ns) in
    let same : n ≡ k = only n (first_listed n (k ∷ ns)) ∙ sym (only k second) in
    absurd (not_both (sym (ap (λ (m : List ℕ). list_any (bytes_eq m) (k ∷ ns)) same ∙ first_listed k ns) ∙ apart.0))
  where
    later : (a b : Bool) → b ≡ true → (a || b) ≡ true
    later true b e = refl
    later false b e = e

-- a front of nothing
pub front_of_none : (stored old new : Objects) (n : ℕ) → new ≡ with_copies stored old (take n []) → new ≡ old
front_of_none stored old new zero e = e
front_of_none stored old new (suc n) e = e

-- a front of one name
front_of_name : (stored old new : Objects) (name : List ℕ) (n : ℕ) → new ≡ with_copies stored old (take n (name ∷ [])) → (new ≡ old) ⊎ (new ≡ with_copy stored old name)
front_of_name stored old new name zero e = inl e
front_of_name stored old new name (suc n) e = inr (front_of_none stored (with_copy stored old name) new n e)

-- a front of one name at most
pub front_of_one : (stored old new : Objects) (ns : List (List ℕ)) (name : List ℕ) → (ns ≡ []) ⊎ (ns ≡ name ∷ []) → HasSavedFront stored ns old new → (new ≡ old) ⊎ (new ≡ with_copy stored old name)
front_of_one stored old new ns name (inl none) front =
    inl (front_of_none stored old new front.0 (front.1.1 ∙ ap (λ (ms : List (List ℕ)). with_copies stored old (take front.0 ms)) none))
front_of_one stored old new ns name (inr one) front =
    front_of_name stored old new name front.0 (front.1.1 ∙ ap (λ (ms : List (List ℕ)). with_copies stored old (take front.0 ms)) one)

-- what a front of two names leaves, of which each may lack: nothing, the first, the second without the first, or both
abbrev pub IsFrontOfTwo : (stored old new : Objects) (firsts : List (List ℕ)) (first second : List ℕ) → Type 0
IsFrontOfTwo stored old new firsts first second =
    (new ≡ old) ⊎ ((new ≡ with_copy stored old first) ⊎ (((firsts ≡ []) × (new ≡ with_copy stored old second)) ⊎ (new ≡ with_copy stored (with_copy stored old first) second)))

-- a front of two names
front_of_names : (stored old new : Objects) (first second : List ℕ) (n : ℕ) → new ≡ with_copies stored old (take n (first ∷ second ∷ [])) → IsFrontOfTwo stored old new (first ∷ []) first second
front_of_names stored old new first second zero e = inl e
front_of_names stored old new first second (suc n) e = by_case (front_of_name stored (with_copy stored old first) new second n e)
  where
    by_case : (new ≡ with_copy stored old first) ⊎ (new ≡ with_copy stored (with_copy stored old first) second) → IsFrontOfTwo stored old new (first ∷ []) first second
    by_case (inl one) = inr (inl one)
    by_case (inr both) = inr (inr (inr both))

-- a front of two names at most
pub front_of_two : (stored old new : Objects) (firsts seconds others : List (List ℕ)) (first second : List ℕ) → (firsts ≡ []) ⊎ (firsts ≡ first ∷ []) → (seconds ≡ []) ⊎ (seconds ≡ second ∷ []) → others ≡ []
    → HasSavedFront stored (firsts ++ seconds ++ others) old new → IsFrontOfTwo stored old new firsts first second
front_of_two stored old new firsts seconds others first second one two none front =
    by_case one two (front.1.1 ∙ ap (λ (ms : List (List ℕ)). with_copies stored old (take front.0 (firsts ++ seconds ++ ms))) none ∙ ap (λ (ms : List (List ℕ)). with_copies stored old (take front.0 ms)) (append-nil (firsts ++ seconds)))
  where
    same : (ms ns : List (List ℕ)) → firsts ≡ ms → seconds ≡ ns → new ≡ with_copies stored old (take front.0 (firsts ++ seconds)) → new ≡ with_copies stored old (take front.0 (ms ++ ns))
    same ms ns e f is = is ∙ (λ i. with_copies stored old (take front.0 (e i ++ f i)))

    by_case : (firsts ≡ []) ⊎ (firsts ≡ first ∷ []) → (seconds ≡ []) ⊎ (seconds ≡ second ∷ []) → new ≡ with_copies stored old (take front.0 (firsts ++ seconds)) → IsFrontOfTwo stored old new firsts first second
    by_case (inl e) (inl f) is = inl (front_of_none stored old new front.0 (same [] [] e f is))
    by_case (inl e) (inr f) is = second_alone e (front_of_name stored old new second front.0 (same [] (second ∷ []) e f is))
      where
        second_alone : firsts ≡ [] → (new ≡ old) ⊎ (new ≡ with_copy stored old second) → IsFrontOfTwo stored old new firsts first second
        second_alone e (inl old_one) = inl old_one
        second_alone e (inr put) = inr (inr (inl (e, put)))
    by_case (inr e) (inl f) is = first_alone (front_of_name stored old new first front.0 (same (first ∷ []) [] e f is))
      where
        first_alone : (new ≡ old) ⊎ (new ≡ with_copy stored old first) → IsFrontOfTwo stored old new firsts first second
        first_alone (inl old_one) = inl old_one
        first_alone (inr put) = inr (inl put)
    by_case (inr e) (inr f) is =
        subst (λ (ms : List (List ℕ)). IsFrontOfTwo stored old new ms first second) (sym e) (front_of_names stored old new first second front.0 (same (first ∷ []) (second ∷ []) e f is))
