-- Levels that stand in the bytes are read, whatever follows them.
use Rattle.std.proofs.Common.{◌≡◌, ℕ, zero, suc, ◌≤◌, leb, true, List, ◌++◌, length, Ok, refl, sym, ap, ◌∙◌, append_assoc}
use Rattle.std.specs.Int.{w32, to_le_bytes}
use Rattle.std.specs.List.{list_all}
use Rattle.std.proofs.lemmas.Bool.{le-leb}
use Rattle.std.proofs.lemmas.List.Elements.{All-weaker}
use Rattle.lake_bytes.proofs.Callers.{hybrid_stands}
use Rattle.page_cells.specs.Levels.{AreLevels, HoldsLevels, levels_at, none_above, told_levels_at, width_of}
use Rattle.page_cells.proofs.FoundSteps.{taken_stand}
use Rattle.page_cells.proofs.LevelsFound.{told_where}
use Rattle.page_cells.proofs.Lists.{pass_all}
use Rattle.page_cells.proofs.PlainOnly.{little_stands}

told_stand : (top : ℕ) (front levels rest : List ℕ) → HoldsLevels top front levels
    → told_levels_at top (length levels) (front ++ rest) ≡ Ok (levels, rest)
unfolding told_levels_at none_above
told_stand top front levels rest h =
    let hybrid = h.hybrid in
    let size = to_le_bytes w32 (length hybrid) in
    let reads = hybrid_stands (width_of top) (length levels) hybrid levels h.held in
    let below : list_all (λ level. leb level top) levels ≡ true = pass_all (λ level. leb level top) levels
    (All-weaker (λ level. level ≤ top) (λ level. leb level top ≡ true) (λ level. le-leb level top) levels
    h.none_above) in
    rw (
      h.parts,
      append_assoc size hybrid rest,
      little_stands (length hybrid) (hybrid ++ rest) h.size_fits,
      taken_stand (length hybrid) hybrid rest refl,
      reads.1,
      below,
    ) refl

pub levels_stand : (top : ℕ) (front levels rest : List ℕ) → AreLevels top front levels
    → levels_at top (length levels) (front ++ rest) ≡ Ok (levels, rest)
unfolding levels_at
levels_stand zero front levels rest h =
    ap (λ (t : List ℕ). Ok (t, front ++ rest)) (sym h.zeros) ∙ ap (λ (t : List ℕ). Ok (levels, t ++ rest)) h.nothing
levels_stand (suc top) front levels rest h =
    told_where top (length levels) (front ++ rest) ∙ told_stand (suc top) front levels rest h
