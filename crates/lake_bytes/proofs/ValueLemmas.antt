-- The values of runs, as runs are added.
use Rattle.std.proofs.Common.{◌≡◌, ℕ, zero, suc, ◌+◌, List, [], ◌∷◌, ◌++◌, length, get_or, min, replicate, take, sym, ap, subst, ◌∙◌, arith, append_assoc, append-nil}
use Rattle.std.proofs.Math.ListN.{set}
use Rattle.std.proofs.lemmas.List.{replicate-append-replicate}
use Rattle.lake_bytes.specs.Hybrid.{values_of}
use Rattle.lake_bytes.specs.declared.run.Run.{Run}
use Rattle.lake_bytes.proofs.BitLemmas.{take-replicate}

one_grown : (last : Run) (count : ℕ)
    → replicate (last.count + count) last.value ++ []
    ≡ (replicate last.count last.value ++ []) ++ replicate count last.value
one_grown last count =
    append-nil (replicate (last.count + count) last.value)
    ∙ sym (replicate-append-replicate last.count count last.value)
    ∙ ap (λ (t : List ℕ). t ++ replicate count last.value) (sym (append-nil (replicate last.count last.value)))

-- the last run grows by so many
pub values_of-grown : (runs : List Run) (place count : ℕ) (last default : Run) → suc place ≡ length runs
    → last ≡ get_or runs place default
    → values_of (set runs place (record { value = last.value; count = last.count + count }))
    ≡ values_of runs ++ replicate count last.value
values_of-grown [] place count last default len is = absurd (omega arith)
values_of-grown (first ∷ []) zero count last default len is =
    subst (λ (run : Run). replicate (run.count + count) run.value ++ []
    ≡ (replicate first.count first.value ++ []) ++ replicate count run.value) (sym is) (one_grown first count)
values_of-grown (first ∷ []) (suc place) count last default len is = absurd (omega arith)
values_of-grown (first ∷ next ∷ runs) zero count last default len is = absurd (omega arith)
values_of-grown (first ∷ next ∷ runs) (suc place) count last default len is =
    ap (λ (t : List ℕ). replicate first.count first.value ++ t)
    (values_of-grown (next ∷ runs) place count last default (omega arith) is)
    ∙ sym (append_assoc (replicate first.count first.value) (values_of (next ∷ runs)) (replicate count last.value))

-- as many of equal values as are wanted
pub take-equal : (wanted given count number value : ℕ) → given ≡ min count wanted → number ≡ value
    → replicate given number ≡ take wanted (replicate count value)
take-equal wanted given count number value given_is number_is =
    let turned : given ≡ min wanted count = omega arith in
    rw (turned, number_is) (sym (take-replicate wanted count value))
