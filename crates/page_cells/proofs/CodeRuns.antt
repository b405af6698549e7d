-- Truth values as runs, and how many levels are read.
use Rattle.std.proofs.Common.{◌≡◌, ℕ, zero, suc, w32, ◌-◌, Bool, true, false, cond, eqb, nat_le, List, [], ◌∷◌, ◌++◌, length, take, map, replicate, Result, Ok, Err, refl, sym, ap, ◌∙◌, arith, append_assoc}
use Rattle.std.specs.List.{list_all}
use Rattle.std.proofs.lemmas.List.{length-append, length-replicate, length-take, map-append}
use Rattle.lake_bytes.specs.LittleEndian.{little_at}
use Rattle.lake_bytes.specs.Reading.{bytes_at}
use Rattle.outcomes.specs.Results.{◌>>=◌}
use Rattle.lake_bytes.specs.declared.fault.ByteFault.{ByteFault}
use Rattle.lake_bytes.specs.declared.fault.ByteFault.TheVariants.{OutOfRange}
use Rattle.lake_bytes.specs.Hybrid.{hybrid_at, run_at, runs_at, values_of}
use Rattle.page_cells.specs.Levels.{levels_at, none_above, told_levels_at, width_of}
use Rattle.lake_bytes.specs.declared.run.Run.{Run}
use Rattle.row_core.specs.Rows.{Value}
use Rattle.page_cells.specs.Plain.{truth_of}
use Rattle.page_cells.proofs.CodeSteps.{ok_step}

-- ---- truth values

truths_equal : (bit n : ℕ) → map truth_of (replicate n bit) ≡ replicate n (truth_of bit)
truths_equal bit zero = refl
truths_equal bit (suc n) = ap (λ (vs : List Value). truth_of bit ∷ vs) (truths_equal bit n)

-- a run's truth values behind others
pub truths_go_on : (old new : List Value) (run : Run) (runs : List Run)
    → new ≡ old ++ replicate run.count (truth_of run.value)
    → new ++ map truth_of (values_of runs) ≡ old ++ map truth_of (values_of (run ∷ runs))
truths_go_on old new run runs is =
    let more = map-append truth_of (replicate run.count run.value) (values_of runs)
    ∙ ap (λ (vs : List Value). vs ++ map truth_of (values_of runs)) (truths_equal run.value run.count) in
    rw (is, more) (append_assoc old (replicate run.count (truth_of run.value)) (map truth_of (values_of runs)))

-- ---- how many levels are read

abbrev Same : List ℕ × List ℕ → List ℕ × List ℕ → Type 0
Same a b = ◌≡◌ {A = Result (List ℕ × List ℕ) ByteFault} (Ok a) (Ok b)

levels_same : (levels others rest more : List ℕ) → Same (levels, rest) (others, more) → levels ≡ others
levels_same levels others rest more e =
    let parts : ◌≡◌ {A = List ℕ × List ℕ} (levels, rest) (others, more) = cc in
    ap (λ (p : List ℕ × List ℕ). p.0) parts

-- the steps of reading levels that stand in the bytes
abbrev checked : (top : ℕ) → List ℕ → List ℕ × List ℕ → Result (List ℕ × List ℕ) ByteFault
checked top behind read = none_above top read.0 >>= λ fine. Ok (fine, behind)

abbrev held : (top count : ℕ) → List ℕ × List ℕ → Result (List ℕ × List ℕ) ByteFault
held top count hybrid = hybrid_at (width_of top) count hybrid.0 >>= checked top hybrid.1

abbrev told : (top count : ℕ) → ℕ × List ℕ → Result (List ℕ × List ℕ) ByteFault
told top count size = bytes_at size.0 size.1 >>= held top count

kept : (top : ℕ) (levels fine : List ℕ) → none_above top levels ≡ Ok fine → levels ≡ fine
unfolding none_above
kept top levels fine h = by_test (list_all (λ level. nat_le level top) levels) h
  where
    by_test : (b : Bool) → cond b (Ok levels) (Err OutOfRange) ≡ Ok fine → levels ≡ fine
    by_test true e = cc
    by_test false e = absurd cc

pub runs_count : (most width wanted : ℕ) (given values rest : List ℕ)
    → runs_at most width wanted given ≡ Ok (values, rest) → length values ≡ wanted
unfolding runs_at
runs_count most width zero given values rest h = let none = levels_same [] values given rest h in rw (sym none) refl
runs_count zero width (suc wanted) given values rest h = absurd cc
runs_count (suc most) width (suc wanted) given values rest h =
    let first = ok_step (run_at width given)
    (λ first. runs_at most width (suc wanted - length first.0) first.1
    >>= λ others. Ok (take (suc wanted) first.0 ++ others.0, others.1)) (values, rest) h in
    let others = ok_step (runs_at most width (suc wanted - length first.0.0) first.0.1)
    (λ others. Ok (take (suc wanted) first.0.0 ++ others.0, others.1)) (values, rest) first.2 in
    let all = levels_same (take (suc wanted) first.0.0 ++ others.0.0) values others.0.1 rest others.2 in
    let more = runs_count most width (suc wanted - length first.0.0) first.0.1 others.0.0 others.0.1 others.1 in
    omega (
      arith,
      ap length all,
      length-append (take (suc wanted) first.0.0) others.0.0,
      length-take (suc wanted)
          first.0.0,
      more,
    )

pub levels_count : (top count : ℕ) (given levels rest : List ℕ) → levels_at top count given ≡ Ok (levels, rest)
    → length levels ≡ count
unfolding levels_at told_levels_at none_above
levels_count top count given levels rest h = by_top (eqb top 0) h
  where
    by_top : (b : Bool) → cond b (Ok (replicate count 0, given)) (little_at w32 given >>= told top count) ≡
        Ok (levels, rest) → length levels ≡ count
    by_top true same = sym (ap length (levels_same (replicate count 0) levels given rest same))
        ∙ length-replicate count 0
    by_top false told_so =
        let size = ok_step (little_at w32 given) (told top count) (levels, rest) told_so in
        let hybrid = ok_step (bytes_at size.0.0 size.0.1) (held top count) (levels, rest) size.2 in
        let read = ok_step (hybrid_at (width_of top) count hybrid.0.0) (checked top hybrid.0.1) (levels, rest)
        hybrid.2 in
        let fine = ok_step (none_above top read.0.0) (λ fine. Ok (fine, hybrid.0.1)) (levels, rest) read.2 in
        let same = levels_same fine.0 levels hybrid.0.1 rest fine.2 in
        sym (ap length same) ∙ sym (ap length (kept top read.0.0 fine.0 fine.1))
        ∙ runs_count count (width_of top) count hybrid.0.0 read.0.0 read.0.1 read.1
