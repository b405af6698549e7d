-- A hybrid that is taken run by run.
use Rattle.std.proofs.Common.{◌≡◌, ℕ, zero, suc, ◌+◌, ◌-◌, ◌*◌, ◌<◌, ◌≤◌, ◌^◌, List, [], ◌∷◌, ◌++◌, Bool, cond, length, min, take, drop, replicate, Ok, Err, refl, sym, ap, subst, ◌∙◌, arith, append_assoc}
use Rattle.std.specs.Prelude.{IsOk, count_by}
use Rattle.std.proofs.lemmas.List.{length-append, length-take, take_all}
use Rattle.std.proofs.lemmas.List.Folds.{sum_by-replicate}
use Rattle.std.proofs.lemmas.List.Sums.{count_by-le-length, sum_by-append}
use Rattle.lake_bytes.specs.Hybrid.{hybrid_at, run_at, runs_at}
use Rattle.lake_bytes.specs.Tested.{values_or_none}
use Rattle.outcomes.specs.Results.{◌>>=◌}
use Rattle.outcomes.proofs.Loops.{with_front_beside}
use Rattle.lake_bytes.specs.declared.fault.ByteFault.{ByteFault}
use Rattle.lake_bytes.specs.declared.fault.ByteFault.TheVariants.{BadRun}
use Rattle.lake_bytes.proofs.RunLemmas.{Read, done, done_parts, failed, run_some}

-- what is read is the same for any number of runs that is enough
pub enough_runs : (most more width wanted : ℕ) (bytes : List ℕ) → wanted ≤ most → wanted ≤ more
    → runs_at most width wanted bytes ≡ runs_at more width wanted bytes
unfolding runs_at
enough_runs most more width zero bytes a b = refl
enough_runs zero more width (suc wanted) bytes a b = absurd (omega arith)
enough_runs (suc most) zero width (suc wanted) bytes a b = absurd (omega arith)
enough_runs (suc most) (suc more) width (suc wanted) bytes a b =
    by_run (λ n left c d. enough_runs most more width n left c d) (run_at width bytes) refl
  where
    by_run : ((n : ℕ) (left : List ℕ) → n ≤ most → n ≤ more → runs_at most width n left ≡ runs_at more width n left)
        → (read : Read) → run_at width bytes ≡ read
        → (read >>= λ first. with_front_beside (take (suc wanted) first.0) (runs_at most width (suc wanted - length first.0) first.1))
        ≡ (read >>= λ first. with_front_beside (take (suc wanted) first.0) (runs_at more width (suc wanted - length first.0) first.1))
    by_run again (Err fault) e = refl
    by_run again (Ok first) e =
        let some : 0 < length first.0 = run_some width bytes first.0 first.1 e in
        ap (with_front_beside (take (suc wanted) first.0))
        (again (suc wanted - length first.0) first.1 (omega arith) (omega arith))

-- a hybrid, at its first run
pub at_first_run : (width wanted given : ℕ) (bytes values left : List ℕ) → 0 < wanted → given ≡ min wanted (length values)
    → run_at width bytes ≡ done values left
    → hybrid_at width wanted bytes ≡ with_front_beside (take wanted values) (hybrid_at width (wanted - given) left)
unfolding runs_at
at_first_run width zero given bytes values left some is reads = absurd (omega arith)
at_first_run width (suc wanted) given bytes values left some is reads =
    let long : 0 < length values = run_some width bytes values left reads in
    let less : suc wanted - length values ≡ suc wanted - given = omega arith in
    ap (λ (read : Read). read >>= λ first. with_front_beside (take (suc wanted) first.0) (runs_at wanted width (suc wanted - length first.0) first.1)) reads
    ∙ ap (with_front_beside (take (suc wanted) values))
    (enough_runs wanted (suc wanted - length values) width (suc wanted - length values) left (omega arith) (omega arith)
    ∙ ap (λ (n : ℕ). runs_at n width n left) less)

-- what is tested has no fault
pub not_failed : (read : Read) (fault : ByteFault) → read ≡ failed fault → IsOk read → ⊥
not_failed read fault is ok = let bad : IsOk (failed fault) = subst IsOk is ok in absurd cc

-- behind its first run a tested hybrid is one, and its values are those of the run and those behind it
pub behind_first : (front : List ℕ) (read whole : Read) → whole ≡ with_front_beside front read → IsOk whole
    → IsOk read × (values_or_none whole ≡ front ++ values_or_none read)
behind_first front (Err fault) whole is ok = absurd (not_failed whole fault is ok)
behind_first front (Ok x) whole is ok = (refl, ap values_or_none is)

-- a fault of a first run is one of the hybrid
pub fault_first : (width wanted : ℕ) (bytes : List ℕ) (fault : ByteFault) → 0 < wanted → run_at width bytes ≡ failed fault
    → hybrid_at width wanted bytes ≡ failed fault
unfolding runs_at
fault_first width zero bytes fault some reads = absurd (omega arith)
fault_first width (suc wanted) bytes fault some reads =
    ap (λ (read : Read). read >>= λ first. with_front_beside (take (suc wanted) first.0) (runs_at wanted width (suc wanted - length first.0) first.1)) reads

-- nothing is wanted
pub none_wanted : (width : ℕ) (bytes : List ℕ) → hybrid_at width 0 bytes ≡ done [] bytes
unfolding runs_at
none_wanted width bytes = refl

-- ---- so many values taken

take-run : (wanted count value : ℕ) (more : List ℕ) → count ≤ wanted
    → take wanted (replicate count value ++ more) ≡ replicate count value ++ take (wanted - count) more
take-run wanted zero value more le = let none : wanted - 0 ≡ wanted = omega arith in rw none refl
take-run zero (suc count) value more le = absurd (omega arith)
take-run (suc wanted) (suc count) value more le =
    let one : suc wanted - suc count ≡ wanted - count = omega arith in
    rw one (ap (λ (t : List ℕ). value ∷ t) (take-run wanted count value more (omega arith)))

drop-run : (wanted count value : ℕ) (more : List ℕ) → count ≤ wanted
    → drop wanted (replicate count value ++ more) ≡ drop (wanted - count) more
drop-run wanted zero value more le = let none : wanted - 0 ≡ wanted = omega arith in rw none refl
drop-run zero (suc count) value more le = absurd (omega arith)
drop-run (suc wanted) (suc count) value more le =
    let one : suc wanted - suc count ≡ wanted - count = omega arith in
    rw one (drop-run wanted count value more (omega arith))

-- These were taken of the first so many values, and so many are wanted still.
pub record TakesOn (count : ℕ) (old : List ℕ) (wanted : ℕ) (taken left : List ℕ) : Type 0 where
  pub first : taken ++ take wanted left ≡ take count old
  pub behind : drop wanted left ≡ drop count old

pub none_taken : (count : ℕ) (old : List ℕ) → TakesOn count old count [] old
none_taken count old = record { first = refl; behind = refl }

pub taken_more : (count : ℕ) (old : List ℕ) (wanted many value : ℕ) (taken left more : List ℕ) → many ≤ wanted
    → left ≡ replicate many value ++ more → TakesOn count old wanted taken left
    → TakesOn count old (wanted - many) (taken ++ replicate many value) more
taken_more count old wanted many value taken left more le is t = record {
  first = append_assoc taken (replicate many value) (take (wanted - many) more)
      ∙ ap (λ (l : List ℕ). taken ++ l) (sym (take-run wanted many value more le) ∙ ap (take wanted) (sym is)) ∙ t.first;
  behind = sym (drop-run wanted many value more le) ∙ ap (drop wanted) (sym is) ∙ t.behind;
}

-- ---- so many values passed, of which some are counted

-- So many values were found among the first ones, and so many are still to be passed.
pub record FindsOn (p : ℕ → Bool) (count : ℕ) (old : List ℕ) (wanted found : ℕ) (left : List ℕ) : Type 0 where
  pub counted : length old < 2 ^ 64 → found + count_by p (take wanted left) ≡ count_by p (take count old)
  pub behind : drop wanted left ≡ drop count old

pub none_found : (p : ℕ → Bool) (count : ℕ) (old : List ℕ) → FindsOn p count old count 0 old
none_found p count old = record { counted = λ few. omega arith; behind = refl }

counted_run : (p : ℕ → Bool) (count value : ℕ) (more : List ℕ)
    → count_by p (replicate count value ++ more) ≡ count * cond (p value) 1 0 + count_by p more
counted_run p count value more =
    sum_by-append (λ x. cond (p x) 1 0) (replicate count value) more
    ∙ ap (λ (n : ℕ). n + count_by p more) (sum_by-replicate (λ x. cond (p x) 1 0) count value)

pub found_more : (p : ℕ → Bool) (count : ℕ) (old : List ℕ) (wanted found new many value : ℕ) (left more : List ℕ)
    → many ≤ wanted → left ≡ replicate many value ++ more
    → (length old < 2 ^ 64 → new ≡ found + many * cond (p value) 1 0)
    → FindsOn p count old wanted found left → FindsOn p count old (wanted - many) new more
found_more p count old wanted found new many value left more le is on f = record {
  counted = λ few.
      let run : count_by p (take wanted left) ≡ many * cond (p value) 1 0 + count_by p (take (wanted - many) more) =
      ap (λ (l : List ℕ). count_by p (take wanted l)) is ∙ ap (count_by p) (take-run wanted many value more le)
      ∙ counted_run p many value (take (wanted - many) more) in
      omega (arith, on few, run, f.counted few);
  behind = sym (drop-run wanted many value more le) ∙ ap (drop wanted) (sym is) ∙ f.behind;
}

-- what is found with a run is no more than there is
pub not_cut_off : (p : ℕ → Bool) (count : ℕ) (old : List ℕ) (wanted found many value : ℕ) (left more : List ℕ)
    → many ≤ wanted → left ≡ replicate many value ++ more → length old < 2 ^ 64
    → FindsOn p count old wanted found left → found + many * cond (p value) 1 0 < 2 ^ 64
not_cut_off p count old wanted found many value left more le is few f =
    let run : count_by p (take wanted left) ≡ many * cond (p value) 1 0 + count_by p (take (wanted - many) more) =
    ap (λ (l : List ℕ). count_by p (take wanted l)) is ∙ ap (count_by p) (take-run wanted many value more le)
    ∙ counted_run p many value (take (wanted - many) more) in
    omega (arith, few, run, f.counted few, count_by-le-length p (take count old), length-take count old)

-- ---- a hybrid that was read

few_others : (wanted : ℕ) (first values rest : List ℕ) (read : Read)
    → ((others behind : List ℕ) → read ≡ done others behind → length others ≤ wanted - length first)
    → with_front_beside (take wanted first) read ≡ done values rest → length values ≤ wanted
few_others wanted first values rest (Err fault) few h = let bad : failed fault ≡ done values rest = h in absurd cc
few_others wanted first values rest (Ok others) few h =
    let parts = done_parts (take wanted first ++ others.0) values others.1 rest h in
    let long : length values ≡ length (take wanted first ++ others.0) = ap length (sym parts.0) in
    omega (arith, long, length-append (take wanted first) others.0, length-take wanted first, few others.0 others.1 refl)

few_behind : (most width wanted : ℕ) (bytes values rest : List ℕ) (read : Read)
    → ((n : ℕ) (left others behind : List ℕ) → runs_at most width n left ≡ done others behind → length others ≤ n)
    → (read >>= λ first. with_front_beside (take wanted first.0) (runs_at most width (wanted - length first.0) first.1))
    ≡ done values rest → length values ≤ wanted
few_behind most width wanted bytes values rest (Err fault) few h = let bad : failed fault ≡ done values rest =
    h in absurd cc
few_behind most width wanted bytes values rest (Ok first) few h =
    few_others wanted first.0 values rest (runs_at most width (wanted - length first.0) first.1)
    (few (wanted - length first.0) first.1) h

-- no more values are read than were wanted
few_values : (most width wanted : ℕ) (bytes values rest : List ℕ) → runs_at most width wanted bytes ≡ done values rest
    → length values ≤ wanted
unfolding runs_at
few_values most width zero bytes values rest is =
    let parts = done_parts [] values bytes rest is in
    let none : length values ≡ 0 = ap length (sym parts.0) in
    omega (arith, none)
few_values zero width (suc wanted) bytes values rest is = let bad : failed BadRun ≡ done values rest = is in absurd cc
few_values (suc most) width (suc wanted) bytes values rest is =
    few_behind most width (suc wanted) bytes values rest (run_at width bytes)
    (λ n left others behind. few_values most width n left others behind) is

-- so many values are all of them
pub all_wanted : (width count : ℕ) (bytes values rest taken : List ℕ) → hybrid_at width count bytes ≡ done values rest
    → taken ≡ take count (values_or_none (hybrid_at width count bytes)) → taken ≡ values
all_wanted width count bytes values rest taken is took =
    took ∙ ap (λ (read : Read). take count (values_or_none read)) is
    ∙ take_all count values (few_values count width count bytes values rest is)
