-- The levels of a page, as they are written: how many bytes they take, and that they are held.
use Rattle.std.proofs.Common.{◌≡◌, ℕ, suc, ◌+◌, ◌*◌, ◌<◌, ◌≤◌, ◌^◌, Bool, true, false, cond, eqb, List, [], ◌∷◌, ◌++◌, length, replicate, ap, arith}
use Rattle.std.specs.List.{flat_map}
use Rattle.std.proofs.lemmas.List.{length-append, length-replicate}
use Rattle.lake_bytes.specs.Varint.{varint_bytes}
use Rattle.lake_bytes.proofs.Callers.{SpellsNumber-varint_bytes}
use Rattle.lake_bytes.specs.Hybrid.{bytes_for, grouped, hybrid_bytes, low_bytes, run_bytes, values_of, with_value}
use Rattle.lake_bytes.specs.declared.run.Run.{Run}
use Rattle.lake_bytes.proofs.Callers.{length-low_bytes, values_of-grouped}
use Rattle.page_cells.specs.Plain.{behind_length}

-- ---- how many bytes they take

one_more : (value : ℕ) (runs : List Run) → length (with_value value runs) ≤ 1 + length runs
one_more value [] = omega arith
one_more value (first ∷ runs) = by_test (eqb first.value value)
  where
    by_test : (same : Bool)
        → length (cond same (record { value = value; count = suc first.count } ∷ runs)
        (record { value = value; count = 1 } ∷ first ∷ runs)) ≤ 1 + length (first ∷ runs)
    by_test true = omega arith
    by_test false = omega arith

few_runs : (values : List ℕ) → length (grouped values) ≤ length values
few_runs [] = omega arith
few_runs (value ∷ values) = omega (arith, one_more value (grouped values), few_runs values)

runs_short : (width : ℕ) (runs : List Run) → length (values_of runs) < 2 ^ 63 → bytes_for width ≤ 4
    → length (flat_map (run_bytes width) runs) ≤ 14 * length runs
runs_short width [] few narrow = omega arith
runs_short width (first ∷ runs) few narrow =
    let counted = length-replicate first.count first.value in
    let joined = length-append {A = ℕ} (replicate first.count first.value) (values_of runs) in
    let header = (SpellsNumber-varint_bytes (2 * first.count) (omega arith)).within_ten in
    let body = length-low_bytes (bytes_for width) first.value in
    let one = length-append (varint_bytes (2 * first.count)) (low_bytes (bytes_for width) first.value) in
    omega (
      arith,
      length-append (run_bytes width first) (flat_map (run_bytes width) runs),
      runs_short width runs (omega arith) narrow,
    )

pub hybrid_short : (width : ℕ) (values : List ℕ) → length values ≤ 4096 → width ≤ 5
    → length (hybrid_bytes width values) ≤ 65536
unfolding hybrid_bytes
hybrid_short width values few narrow =
    omega (
      arith,
      few_runs values,
      runs_short width (grouped values) (omega (arith, ap length (values_of-grouped values))) (omega arith),
    )

pub hybrid_content_short : (width : ℕ) (values old new content : List ℕ) → old ≡ []
    → new ≡ old ++ hybrid_bytes width values → content ≡ new → length values ≤ 4096 → width ≤ 5
    → length content ≤ 65536
hybrid_content_short width values old new content none new_is is few narrow =
    rw (is, new_is, none) (hybrid_short width values few narrow)

pub content_short : (old new content : List ℕ) → old ≡ [] → new ≡ old ++ behind_length content → length content ≤ 65536
    → length new ≤ 65540
content_short old new content none new_is short = rw (new_is, none) (omega arith)
