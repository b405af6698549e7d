-- Levels that are read stand in the bytes.
use Rattle.std.proofs.Common.{◌≡◌, ℕ, zero, suc, ◌≤◌, leb, eqb, true, false, List, [], ◌++◌, length, replicate, Ok, refl, sym, ap, subst, ◌∙◌, arith, length-take-le}
use Rattle.std.specs.Int.{w32}
use Rattle.std.specs.List.{list_all}
use Rattle.std.proofs.lemmas.Bool.{leb-true, ne_eqb}
use Rattle.std.proofs.lemmas.List.{length-replicate}
use Rattle.std.proofs.lemmas.List.Elements.{All-weaker}
use Rattle.lake_bytes.specs.LittleEndian.{little_at}
use Rattle.lake_bytes.specs.Reading.{bytes_at}
use Rattle.outcomes.specs.Results.{◌>>=◌}
use Rattle.outcomes.specs.Bytes.{IsBytes}
use Rattle.lake_bytes.specs.declared.fault.ByteFault.{ByteFault}
use Rattle.lake_bytes.specs.declared.fault.ByteFault.TheVariants.{OutOfRange}
use Rattle.lake_bytes.specs.Hybrid.{HoldsValues, hybrid_at}
use Rattle.lake_bytes.proofs.Callers.{hybrid_found}
use Rattle.page_cells.specs.Plain.{behind_length, content_at}
use Rattle.page_cells.specs.Levels.{AreLevels, levels_at, none_above, told_levels_at, width_of}
use Rattle.page_cells.proofs.FoundSteps.{bind_ok, held, ok_is}
use Rattle.page_cells.proofs.Lists.{all_pass}
use Rattle.page_cells.proofs.PlainFound.{content_found}

-- so many levels stand in front
pub record LevelsInFront (top count : ℕ) (given levels rest : List ℕ) : Type 0 where
  pub front : List ℕ
  pub split : given ≡ front ++ rest
  pub are : AreLevels top front levels
  pub many : length levels ≡ count

untold_found : (count : ℕ) (given levels rest : List ℕ) → levels_at 0 count given ≡ Ok (levels, rest)
    → LevelsInFront 0 count given levels rest
unfolding levels_at
untold_found count given levels rest e =
    subst (λ (p : List ℕ × List ℕ). LevelsInFront 0 count given p.0 p.1) {x = (replicate count 0, given)}
    (ok_is {E = ByteFault} (replicate count 0, given) (levels, rest) e)
    (record {
      front = [];
      split = refl;
      are = record { nothing = refl; zeros = ap (λ (n : ℕ). replicate n 0) (sym (length-replicate count 0)) };
      many = length-replicate count 0;
    })

-- ---- levels behind their length

-- the levels that a hybrid holds are as many as were asked for
held_many : (width count : ℕ) (hybrid levels : List ℕ) → HoldsValues width count hybrid levels → length levels ≡ count
held_many width count hybrid levels h = ap length h.first ∙ length-take-le count h.all h.enough

-- what a reading of levels behind their length found
record Told (top count : ℕ) (given levels rest : List ℕ) : Type 0 where
  hybrid : List ℕ
  content : content_at given ≡ Ok (hybrid, rest)
  behind : List ℕ
  reads : hybrid_at (width_of top) count hybrid ≡ Ok (levels, behind)
  below : list_all (λ level. leb level top) levels ≡ true

told_steps : (top count : ℕ) (given levels rest : List ℕ) → told_levels_at top count given ≡ Ok (levels, rest)
    → Told top count given levels rest
unfolding told_levels_at content_at none_above
told_steps top count given levels rest e =
    let a = bind_ok (little_at w32 given) (λ size. bytes_at size.0 size.1 >>= λ hybrid.
    hybrid_at (width_of top) count hybrid.0 >>= λ levels.
    none_above top levels.0 >>= λ fine. Ok (fine, hybrid.1)) (levels, rest) e in
    let b = bind_ok (bytes_at a.0.0 a.0.1) (λ hybrid. hybrid_at (width_of top) count hybrid.0 >>= λ levels.
    none_above top levels.0 >>= λ fine. Ok (fine, hybrid.1)) (levels, rest) a.2 in
    let c = bind_ok (hybrid_at (width_of top) count b.0.0)
    (λ levels. none_above top levels.0 >>= λ fine. Ok (fine, b.0.1)) (levels, rest) b.2 in
    let d = bind_ok (none_above top c.0.0) (λ fine. Ok (fine, b.0.1)) (levels, rest) c.2 in
    let t = held (list_all (λ level. leb level top) c.0.0) OutOfRange c.0.0 d.0 d.1 in
    subst (λ (p : List ℕ × List ℕ). Told top count given p.0 p.1) {x = (d.0, b.0.1)}
    (ok_is {E = ByteFault} (d.0, b.0.1) (levels, rest) d.2)
    (subst (λ (fine : List ℕ). Told top count given fine b.0.1) {x = c.0.0} {y = d.0} t.1
    (record {
      hybrid = b.0.0;
      content = ap (λ read. read >>= λ size. bytes_at size.0 size.1) a.1 ∙ b.1;
      behind = c.0.1;
      reads = c.1;
      below = t.0;
    }))

told_found : (top count : ℕ) (given levels rest : List ℕ) → IsBytes given → Told (suc top) count given levels rest
    → LevelsInFront (suc top) count given levels rest
told_found top count given levels rest h t =
    let f = content_found given t.hybrid rest h t.content in
    let k = hybrid_found (width_of (suc top)) count t.hybrid levels t.behind f.fits t.reads in
    let many = held_many (width_of (suc top)) count t.hybrid levels k in
    record {
      front = behind_length t.hybrid;
      split = f.parts;
      are = record {
        hybrid = t.hybrid;
        size_fits = f.small;
        parts = refl;
        held = subst (λ (n : ℕ). HoldsValues (width_of (suc top)) n t.hybrid levels) (sym many) k;
        none_above = All-weaker (λ level. leb level (suc top) ≡ true) (λ level. level ≤ suc top)
            (λ level. leb-true level (suc top)) levels (all_pass (λ level. leb level (suc top)) levels t.below);
      };
      many = many;
    }

-- where something may be null the levels stand behind their length
pub told_where : (top count : ℕ) (given : List ℕ)
    → levels_at (suc top) count given ≡ told_levels_at (suc top) count given
unfolding levels_at
told_where top count given =
    let some : eqb (suc top) 0 ≡ false = ne_eqb (suc top) 0 (λ e. absurd (omega arith)) in
    rw some refl

pub levels_found : (top count : ℕ) (given levels rest : List ℕ) → IsBytes given
    → levels_at top count given ≡ Ok (levels, rest)
    → LevelsInFront top count given levels rest
levels_found zero count given levels rest h e = untold_found count given levels rest e
levels_found (suc top) count given levels rest h e =
    told_found top count given levels rest h (told_steps (suc top) count given levels rest
    (sym (told_where top count given) ∙ e))
