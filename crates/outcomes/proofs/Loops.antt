-- Reading one value after another, as a loop does: what was read counts among the values in front.
use Rattle.std.proofs.Common.{◌≡◌, List, ◌++◌, Result, Ok, Err, refl, ap, append_assoc}
use Rattle.outcomes.specs.Results.{◌>>=◌}

-- values in front, with those that are read behind them
abbrev pub with_front : {A E : Type 0} → List A → Result (List A) E → Result (List A) E
with_front front read = read >>= λ others. Ok (front ++ others)

-- the same where something is left beside the values
abbrev pub with_front_beside : {A B E : Type 0} → List A → Result (List A × B) E → Result (List A × B) E
with_front_beside front read = read >>= λ others. Ok (front ++ others.0, others.1)

-- values that were read count among those in front
pub regroup : {A E : Type 0} (front first : List A) (read : Result (List A) E) → with_front front (with_front first read) ≡ with_front (front ++ first) read
regroup {A} front first (Ok others) = ap (λ (all : List A). Ok all) (simp append_assoc)
regroup front first (Err fault) = refl

-- the same where something is left beside the values
pub regroup_beside : {A B E : Type 0} (front first : List A) (read : Result (List A × B) E) → with_front_beside front (with_front_beside first read) ≡ with_front_beside (front ++ first) read
regroup_beside {A} front first (Ok others) = ap (λ (all : List A). Ok (all, others.1)) (simp append_assoc)
regroup_beside front first (Err fault) = refl
