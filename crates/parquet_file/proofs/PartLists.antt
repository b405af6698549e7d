-- A part of one list behind another: what the first has of it, and then what is left of it in the other.
use Rattle.std.proofs.Common.{◌≡◌, ℕ, zero, suc, ◌-◌, ◌≤◌, List, [], ◌∷◌, ◌++◌, length, take, drop, refl, ap, ◌∙◌, arith}
use Rattle.std.proofs.Math.Seq.{drop-nil, take-nil}
use Rattle.shred.specs.Parts.{part_of}

drop_behind : {A : Type 0} (n : ℕ) (xs ys : List A) → drop n (xs ++ ys) ≡ drop n xs ++ drop (n - length xs) ys
drop_behind {A} n [] ys =
    let all : n - 0 ≡ n = omega arith in
    rw (drop-nil {A = A} n, all) refl
drop_behind {A} zero (x ∷ xs) ys =
    let none : 0 - length (x ∷ xs) ≡ 0 = omega arith in
    rw none refl
drop_behind {A} (suc n) (x ∷ xs) ys =
    let less : suc n - length (x ∷ xs) ≡ n - length xs = omega arith in
    rw less (drop_behind n xs ys)

take_behind : {A : Type 0} (n : ℕ) (xs ys : List A) → take n (xs ++ ys) ≡ take n xs ++ take (n - length (take n xs)) ys
take_behind {A} n [] ys = rw (take-nil {A = A} n) (let all : n - 0 ≡ n = omega arith in rw all refl)
take_behind {A} zero (x ∷ xs) ys = refl
take_behind {A} (suc n) (x ∷ xs) ys =
    let less : suc n - suc (length (take n xs)) ≡ n - length (take n xs) = omega arith in
    rw less (ap (λ (l : List A). x ∷ l) (take_behind n xs ys))

pub part_behind : {A : Type 0} (first most : ℕ) (xs ys : List A) → part_of first most (xs ++ ys)
    ≡ part_of first most xs ++ part_of (first - length xs) (most - length (part_of first most xs)) ys
part_behind {A} first most xs ys =
    ap (λ (l : List A). take most l) (drop_behind first xs ys) ∙ take_behind most (drop first xs) (drop (first - length xs) ys)

pub part_of_none : {A : Type 0} (first most : ℕ) → ◌≡◌ {A = List A} (part_of first most []) []
part_of_none {A} first most = rw (drop-nil {A = A} first) (take-nil {A = A} most)

-- a part from the beginning that lets everything in
pub part_whole : {A : Type 0} (most : ℕ) (xs : List A) → length xs ≤ most → part_of 0 most xs ≡ xs
part_whole most [] few = take-nil most
part_whole zero (x ∷ xs) few = absurd (omega (arith, few))
part_whole {A} (suc most) (x ∷ xs) few = ap (λ (l : List A). x ∷ l) (part_whole most xs (omega (arith, few)))
