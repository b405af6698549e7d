-- Values as runs of equal ones, as they are written.
use Rattle.std.proofs.Common.{◌≡◌, ℕ, zero, suc, ◌+◌, ◌-◌, ◌*◌, ◌/◌, ◌%◌, ◌^◌, ◌<◌, ◌≤◌, Bool, true, false, cond, eqb, List, [], ◌∷◌, ◌++◌, length, drop, replicate, All, refl, sym, ap, subst, ◌∙◌, arith, append_assoc, append-nil, eq-eqb}
use Rattle.std.specs.List.{AllByRecursion, flat_map, prefix_len}
use Rattle.std.proofs.Math.Nat.{pow-le-pow_right}
use Rattle.std.proofs.lemmas.Bool.{eqb-true}
use Rattle.std.proofs.lemmas.List.{length-append, length-replicate}
use Rattle.std.proofs.lemmas.List.Elements.{recursion_from_All}
use Rattle.std.proofs.lemmas.Nat.{pow-add}
use Rattle.lake_bytes.specs.Hybrid.{AreRuns, IsRun, bytes_for, grouped, hybrid_bytes, low_bytes, low_first, no_run, repeated, run, run_bytes, values_of, with_value}
use Rattle.lake_bytes.specs.Varint.{varint_bytes}
use Rattle.lake_bytes.specs.declared.run.Run.{Run}
use Rattle.lake_bytes.proofs.Groups.{SpellsNumber-varint_bytes}

-- ---- bytes of a value

pub length-low_bytes : (count number : ℕ) → length (low_bytes count number) ≡ count
unfolding low_bytes
length-low_bytes zero number = refl
length-low_bytes (suc count) number = ap suc (length-low_bytes count (number / 256))

pub low_first-low_bytes : (count number : ℕ) → number < 256 ^ count → low_first (low_bytes count number) ≡ number
unfolding low_bytes
low_first-low_bytes zero number lt = omega arith
low_first-low_bytes (suc count) number lt =
    let wide : number < 256 * 256 ^ count = omega arith in
    let high : number / 256 < 256 ^ count = omega arith in
    let again = low_first-low_bytes count (number / 256) high in
    rw again (omega arith)

pub power_of_bytes : (count : ℕ) → 256 ^ count ≡ 2 ^ (8 * count)
power_of_bytes zero = refl
power_of_bytes (suc count) =
    let more : 8 * suc count ≡ 8 * count + 8 = omega arith in
    rw (more, pow-add 2 (8 * count) 8, ← power_of_bytes count) (omega arith)

fits_bytes : (width value : ℕ) → value < 2 ^ width → value < 256 ^ bytes_for width
fits_bytes width value lt =
    let less : 2 ^ width ≤ 2 ^ (8 * bytes_for width) =
    pow-le-pow_right {n = 2} (omega arith) {i = width} {j = 8 * bytes_for width} (omega arith) in
    rw (power_of_bytes (bytes_for width)) (omega arith)

-- ---- runs of equal values

abbrev run_of : (value count : ℕ) → Run
run_of value count = record { value = value; count = count }

with_value-same : (value count : ℕ) (runs : List Run)
    → with_value value (run_of value count ∷ runs) ≡ run_of value (suc count) ∷ runs
with_value-same value count runs = rw (eq-eqb value value refl) refl

values_of-with_value : (value : ℕ) (runs : List Run) → values_of (with_value value runs) ≡ value ∷ values_of runs
values_of-with_value value [] = refl
values_of-with_value value (first ∷ runs) = by_test (eqb first.value value) refl
  where
    by_test : (same : Bool) → eqb first.value value ≡ same
        → values_of (cond same (run_of value (suc first.count) ∷ runs) (run_of value 1 ∷ first ∷ runs))
        ≡ value ∷ values_of (first ∷ runs)
    by_test true e = rw (eqb-true first.value value e) refl
    by_test false e = refl

pub values_of-grouped : (values : List ℕ) → values_of (grouped values) ≡ values
values_of-grouped [] = refl
values_of-grouped (value ∷ values) = values_of-with_value value (grouped values)
    ∙ ap (λ (t : List ℕ). value ∷ t) (values_of-grouped values)

-- no run is empty, and each value has so many bits
abbrev AreFit : ℕ → List Run → Type 0
AreFit width [] = Unit {0}
AreFit width (first ∷ runs) = (0 < first.count) × (first.value < 2 ^ width) × AreFit width runs

AreFit-with_value : (width value : ℕ) (runs : List Run) → value < 2 ^ width → AreFit width runs
    → AreFit width (with_value value runs)
AreFit-with_value width value [] lt fit = (omega arith, lt, tt)
AreFit-with_value width value (first ∷ runs) lt fit = by_test (eqb first.value value)
  where
    by_test : (same : Bool)
        → AreFit width (cond same (run_of value (suc first.count) ∷ runs) (run_of value 1 ∷ first ∷ runs))
    by_test true = (omega arith, lt, fit.2)
    by_test false = (omega arith, lt, fit)

AreFit-grouped : (width : ℕ) (values : List ℕ) → AllByRecursion (λ value. value < 2 ^ width) values
    → AreFit width (grouped values)
AreFit-grouped width [] all = tt
AreFit-grouped width (value ∷ values) all =
    AreFit-with_value width value (grouped values) all.0 (AreFit-grouped width values all.1)

IsRun-run_bytes : (width : ℕ) (equal : Run) → 0 < equal.count → equal.value < 2 ^ width → equal.count < 2 ^ 63
    → IsRun width (run_bytes width equal) (replicate equal.count equal.value)
IsRun-run_bytes width equal some fits few =
    let body = low_bytes (bytes_for width) equal.value in
    subst (λ (value : ℕ). IsRun width (run_bytes width equal) (replicate equal.count value))
    (low_first-low_bytes (bytes_for width) equal.value (fits_bytes width equal.value fits))
    (repeated equal.count (varint_bytes (2 * equal.count)) body some
    (SpellsNumber-varint_bytes (2 * equal.count) (omega arith)) (length-low_bytes (bytes_for width) equal.value))

AreRuns-run_bytes : (width : ℕ) (runs : List Run) → AreFit width runs → length (values_of runs) < 2 ^ 63
    → AreRuns width (flat_map (run_bytes width) runs) (values_of runs)
AreRuns-run_bytes width [] fit few = no_run
AreRuns-run_bytes width (first ∷ runs) fit few =
    let len : length (values_of (first ∷ runs)) ≡ first.count + length (values_of runs) =
    length-append (replicate first.count first.value) (values_of runs)
    ∙ ap (λ (n : ℕ). n + length (values_of runs)) (length-replicate first.count first.value) in
    run (run_bytes width first) (flat_map (run_bytes width) runs) (replicate first.count first.value) (values_of runs)
    (IsRun-run_bytes width first fit.0 fit.1 (omega arith))
    (AreRuns-run_bytes width runs fit.2 (omega arith))

pub AreRuns-hybrid_bytes : (width : ℕ) (values : List ℕ) → All (λ value. value < 2 ^ width) values
    → length values < 2 ^ 63 → AreRuns width (hybrid_bytes width values) values
unfolding hybrid_bytes
AreRuns-hybrid_bytes width values all few =
    let same = values_of-grouped values in
    subst (AreRuns width (flat_map (run_bytes width) (grouped values))) same
    (AreRuns-run_bytes width (grouped values)
    (AreFit-grouped width values (recursion_from_All (λ value. value < 2 ^ width) values all))
    (subst (λ (t : List ℕ). length t < 2 ^ 63) (sym same) few))

-- ---- the first run

-- how many values in front are this one
abbrev pub equal_front : ℕ → List ℕ → ℕ
equal_front value values = prefix_len (λ other. eqb other value) values

-- the first run of these values
abbrev FirstRun : ℕ → List ℕ → Type 0
FirstRun value values =
    grouped (value ∷ values)
    ≡ run_of value (suc (equal_front value values)) ∷ grouped (drop (equal_front value values) values)

first_before : (value next : ℕ) (values : List ℕ) (same : Bool) → eqb next value ≡ same → FirstRun next values
    → cond same (run_of value (suc (suc (equal_front next values))) ∷ grouped (drop (equal_front next values) values))
    (run_of value 1 ∷ run_of next (suc (equal_front next values)) ∷ grouped (drop (equal_front next values) values))
    ≡ run_of value (suc (equal_front value (next ∷ values))) ∷ grouped
    (drop (equal_front value (next ∷ values)) (next ∷ values))
first_before value next values true e is =
    let one : 1 + equal_front value values ≡ suc (equal_front value values) = omega arith in
    rw (e, one, eqb-true next value e) refl
first_before value next values false e is = rw e (ap (λ (t : List Run). run_of value 1 ∷ t) (sym is))

-- the first run has the value in front, as often as it stands there
pub grouped-first : (value : ℕ) (values : List ℕ)
    → grouped (value ∷ values)
    ≡ run_of value (suc (equal_front value values)) ∷ grouped (drop (equal_front value values) values)
grouped-first value [] = refl
grouped-first value (next ∷ values) = ap (with_value value) (grouped-first next values)
    ∙ first_before value next values (eqb next value) refl (grouped-first next values)

-- the bytes of values are those of their first run, and those of the values behind it
pub hybrid_bytes-first : (width value : ℕ) (values : List ℕ)
    → hybrid_bytes width (value ∷ values)
    ≡ run_bytes width (run_of value (suc (equal_front value values))) ++ hybrid_bytes width
    (drop (equal_front value values) values)
unfolding hybrid_bytes
hybrid_bytes-first width value values = ap (λ (t : List Run). flat_map (run_bytes width) t) (grouped-first value values)

-- ---- writing

-- one run is written, and the values behind it are left
pub run_written : (width value count : ℕ) (values all left old new whole : List ℕ) → all ≡ value ∷ values
    → count ≡ equal_front value values → left ≡ drop count values
    → old ++ hybrid_bytes width all ≡ whole → new ≡ old ++ run_bytes width (run_of value (1 + count))
    → new ++ hybrid_bytes width left ≡ whole
run_written width value count values all left old new whole all_is count_is left_is so_far new_is =
    let one : 1 + count ≡ suc (equal_front value values) = omega arith in
    let first : hybrid_bytes width all ≡ run_bytes width (run_of value (1 + count)) ++ hybrid_bytes width left =
    ap (hybrid_bytes width) all_is ∙ hybrid_bytes-first width value values ∙ rw (one, left_is, count_is) refl in
    ap (λ (t : List ℕ). t ++ hybrid_bytes width left) new_is
    ∙ append_assoc old (run_bytes width (run_of value (1 + count))) (hybrid_bytes width left)
    ∙ ap (λ (t : List ℕ). old ++ t) (sym first) ∙ so_far

pub nothing_more : (width : ℕ) (values out whole : List ℕ) → length values ≡ 0
    → out ++ hybrid_bytes width values ≡ whole → out ≡ whole
unfolding hybrid_bytes
nothing_more width [] out whole none h = sym (append-nil out) ∙ h
nothing_more width (value ∷ values) out whole none h = absurd (omega arith)

-- one byte of a value is written, and the higher ones are left
pub byte_written : (count index number : ℕ) (old new whole : List ℕ) → index < count
    → old ++ low_bytes (count - index) number ≡ whole → new ≡ old ++ number % 256 ∷ []
    → new ++ low_bytes (count - (index + 1)) (number / 256) ≡ whole
unfolding low_bytes
byte_written count index number old new whole lt so_far new_is =
    let more : count - index ≡ suc (count - (index + 1)) = omega arith in
    ap (λ (t : List ℕ). t ++ low_bytes (count - (index + 1)) (number / 256)) new_is
    ∙ append_assoc old (number % 256 ∷ []) (low_bytes (count - (index + 1)) (number / 256))
    ∙ ap (λ (n : ℕ). old ++ low_bytes n number) (sym more) ∙ so_far

pub bytes_written : (left number : ℕ) (old whole : List ℕ) → left ≡ 0 → old ++ low_bytes left number ≡ whole
    → old ≡ whole
unfolding low_bytes
bytes_written left number old whole none h = sym (append-nil old) ∙ ap (λ (n : ℕ). old ++ low_bytes n number) (sym none)
    ∙ h
