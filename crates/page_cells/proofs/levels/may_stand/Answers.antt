use Rattle.std.proofs.Common.{◌≡◌, ℕ, zero, suc, ◌<◌, ◌≤◌, Bool, true, List, [], ◌∷◌, length, get_or, refl, ◌∙◌, arith}
use Rattle.page_cells.specs.Levels.{may_stand}
use Rattle.page_cells.proofs.levels.may_stand.Goals as goal

flag_at : (flags : List Bool) (level : ℕ) → level < length flags → get_or flags level true ≡ may_stand flags level
flag_at [] level lt = absurd (omega arith)
flag_at (flag ∷ flags) zero lt = refl
flag_at (flag ∷ flags) (suc level) lt = flag_at flags level (omega arith)

none_at : (flags : List Bool) (level : ℕ) → length flags ≤ level → true ≡ may_stand flags level
none_at [] level le = refl
none_at (flag ∷ flags) zero le = absurd (omega arith)
none_at (flag ∷ flags) (suc level) le = none_at flags level (omega arith)

pub returns-in-Some : goal.returns-in-Some
returns-in-Some c =
    let h = c.in-Some.ensures.lookup in
    h.3.1 true ∙ flag_at c.args.nullable.now c.args.level h.3.0

pub returns-in-None : goal.returns-in-None
returns-in-None c = none_at c.args.nullable.now c.args.level c.in-None.ensures.lookup.3
