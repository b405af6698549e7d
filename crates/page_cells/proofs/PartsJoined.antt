-- What is kept of a list and of one behind it, and of runs.
use Rattle.std.proofs.Common.{◌≡◌, ℕ, zero, suc, ◌-◌, ◌≤◌, min, List, [], ◌∷◌, ◌++◌, length, take, drop, replicate, refl, sym, ap, ◌∙◌, arith, append_assoc}
use Rattle.std.proofs.lemmas.List.{append-nil, drop-replicate, length-drop, length-replicate, take_min, take-replicate}
use Rattle.std.proofs.lemmas.Grind.{flat_map-append}
use Rattle.lake_bytes.specs.Hybrid.{values_of}
use Rattle.lake_bytes.specs.declared.run.Run.{Run}
use Rattle.shred.specs.Parts.{part_of}

-- ---- lists

pub take_both : {A : Type 0} (n : ℕ) (xs ys : List A) → take n (xs ++ ys) ≡ take n xs ++ take (n - length xs) ys
take_both zero xs ys =
    let none : 0 - length xs ≡ 0 = omega arith in
    rw none refl
take_both (suc n) [] ys =
    let same : suc n - 0 ≡ suc n = omega arith in
    rw same refl
take_both {A} (suc n) (x ∷ xs) ys =
    let less : suc n - suc (length xs) ≡ n - length xs = omega arith in
    rw less (ap (λ (zs : List A). x ∷ zs) (take_both n xs ys))

pub drop_both : {A : Type 0} (n : ℕ) (xs ys : List A) → drop n (xs ++ ys) ≡ drop n xs ++ drop (n - length xs) ys
drop_both zero xs ys =
    let none : 0 - length xs ≡ 0 = omega arith in
    rw none refl
drop_both (suc n) [] ys =
    let same : suc n - 0 ≡ suc n = omega arith in
    rw same refl
drop_both (suc n) (x ∷ xs) ys =
    let less : suc n - suc (length xs) ≡ n - length xs = omega arith in
    rw less (drop_both n xs ys)

-- what is kept of a list, and behind it what is kept of the list behind it
part_both : {A : Type 0} (first most : ℕ) (xs ys : List A)
    → part_of first most (xs ++ ys) ≡ part_of first most xs ++ part_of (first - length xs) (most - (length xs - first)) ys
part_both first most xs ys =
    rw (drop_both first xs ys, take_both most (drop first xs) (drop (first - length xs) ys), length-drop first xs) refl

-- ---- runs

part_replicate : {A : Type 0} (first most n : ℕ) (x : A)
    → part_of first most (replicate n x) ≡ replicate (min most (n - first)) x
part_replicate first most n x =
    let few : min most (length (replicate (n - first) x)) ≡ min most (n - first) =
    ap (λ (k : ℕ). min most k) (length-replicate (n - first) x) in
    ap (take most) (drop-replicate first n x) ∙ sym (take_min most (replicate (n - first) x))
    ∙ ap (λ (k : ℕ). take k (replicate (n - first) x)) few
    ∙ take-replicate (min most (n - first)) (n - first) x (omega arith)

-- a run more
pub run_more : (old new : List Run) (value kept : ℕ) → new ≡ old ++ record { value = value; count = kept } ∷ []
    → values_of new ≡ values_of old ++ replicate kept value
run_more old new value kept is =
    ap values_of is
    ∙ flat_map-append (λ (equal : Run). replicate equal.count equal.value) old (record { value = value; count = kept } ∷ [])
    ∙ ap (λ (xs : List ℕ). values_of old ++ xs) (append-nil (replicate kept value))

-- an empty run isn't added
pub run_none : (old new : List Run) (value kept : ℕ) → kept ≤ 0 → new ≡ old
    → values_of new ≡ values_of old ++ replicate kept value
run_none old new value kept none is =
    let nothing : kept ≡ 0 = omega arith in
    rw (nothing, is) (sym (append-nil (values_of old)))

-- what is kept of a run, and what is left to pass over and to keep behind it
pub cut_goes_on : (old new : List Run) (run : Run) (runs : List Run) (before wanted passed kept : ℕ) (whole : List ℕ)
    → passed ≡ min before run.count → kept ≡ min wanted (run.count - passed)
    → values_of new ≡ values_of old ++ replicate kept run.value
    → values_of old ++ part_of before wanted (values_of (run ∷ runs)) ≡ whole
    → values_of new ++ part_of (before - passed) (wanted - kept) (values_of runs) ≡ whole
cut_goes_on old new run runs before wanted passed kept whole is_passed is_kept is so_far =
    let n : length (replicate run.count run.value) ≡ run.count = length-replicate run.count run.value in
    let front : part_of before wanted (replicate run.count run.value) ≡ replicate kept run.value =
    part_replicate before wanted run.count run.value
    ∙ ap (λ (k : ℕ). replicate k run.value) (omega (arith, is_passed, is_kept)) in
    let less : before - length (replicate run.count run.value) ≡ before - passed = omega (arith, n, is_passed) in
    let fewer : wanted - (length (replicate run.count run.value) - before) ≡ wanted - kept =
    omega (arith, n, is_passed, is_kept) in
    let both = part_both before wanted (replicate run.count run.value) (values_of runs) in
    let here : part_of before wanted (values_of (run ∷ runs))
    ≡ replicate kept run.value ++ part_of (before - passed) (wanted - kept) (values_of runs) =
    both ∙ rw (front, less, fewer) refl in
    rw is (append_assoc (values_of old) (replicate kept run.value)
    (part_of (before - passed) (wanted - kept) (values_of runs))
    ∙ ap (λ (xs : List ℕ). values_of old ++ xs) (sym here) ∙ so_far)
