-- A cell has a value just where its level is the highest of its way.
use Rattle.std.proofs.Common.{◌≡◌, ◌==◌, ℕ, suc, ◌+◌, ◌<◌, ◌≤◌, length, List, [], ◌∷◌, map, Bool, true, false, if◌then◌else◌, is_some, Option, Some, None, option_map, refl, sym, ap, subst, arith}
use Rattle.std.specs.Prelude.{All}
use Rattle.std.proofs.lemmas.Bool.Decides.{nat_tests}
use Rattle.std.proofs.lemmas.Option.{none-some}
use Rattle.outcomes.specs.Options.{◌>>=◌}
use Rattle.row_core.specs.Rows.{Value, Row}
use Rattle.shred.specs.Shape.{Shape}
use Rattle.shred.specs.Fits.{FitsShape}
use Rattle.shred.specs.Ways.{Step, ways, level_inside, highest_from, highest}
use Rattle.shred.specs.Columns.{Cell, absent_cell, present_cell, field_at, is_null, null_cell, cell_from, cell, all_some}
use Rattle.shred.proofs.Callers.{cells_of, cells_found, fronts, matrix, first_fits, others_fit}
use Rattle.row_assembly.proofs.Rests.{level_same}
use Rattle.row_assembly.proofs.Even.{AreProper}

pub some_same : {A : Type 0} (x y : A) → Some x ≡ Some y → x ≡ y
some_same x y h = cc

pub bind_some : {A B : Type 0} (o : Option A) (f : A → Option B) (y : B) → (o >>= f) ≡ Some y → (x : A) × (o ≡ Some x) × (f x ≡ Some y)
bind_some (Some x) f y h = (x, refl, h)
bind_some None f y h = absurd (none-some y h)

pub map_some : {A B : Type 0} (f : A → B) (o : Option A) (y : B) → option_map f o ≡ Some y → (x : A) × (o ≡ Some x) × (f x ≡ y)
map_some f (Some x) y h = (x, refl, some_same (f x) y h)
map_some f None y h = absurd (none-some y h)

inside_above : (b : Bool) (level : ℕ) → level ≤ level_inside b level
inside_above true level = omega arith
inside_above false level = omega arith

highest_above : (way : List Step) (level : ℕ) → level ≤ highest_from level way
highest_above [] level = omega arith
highest_above (step ∷ way) level =
    let one = inside_above step.optional level in
    let others = highest_above way (level_inside step.optional level) in
    omega (arith, one, others)

level_below : (m n : ℕ) → m < n → false ≡ (m == n)
level_below m n h = grind (arith, nat_tests)

abbrev pub Tells : Cell → ℕ → Type 0
Tells c top = is_some c.value ≡ (c.level == top)

null_tells : (b : Bool) (level : ℕ) (way : List Step) (c : Cell) → null_cell b level ≡ Some c → Tells c (highest_from (level_inside b level) way)
null_tells true level way c h =
    let above = highest_above way (level + 1) in
    subst (λ d. Tells d (highest_from (level + 1) way)) (some_same (absent_cell level) c h) (level_below level (highest_from (level + 1) way) (omega (arith, above)))
null_tells false level way c h = absurd (none-some c h)

step_tells : (n optional : Bool) (way : List Step) (level : ℕ) (inner : Value) (c : Cell) → (let o : Option Cell = if n then null_cell optional level else cell_from way (level_inside optional level) inner in o) ≡ Some c
    → (cell_from way (level_inside optional level) inner ≡ Some c → Tells c (highest_from (level_inside optional level) way)) → Tells c (highest_from (level_inside optional level) way)
step_tells true optional way level inner c h others = null_tells optional level way c h
step_tells false optional way level inner c h others = others h

-- a cell has a value just where its level is the highest
pub way_tells : (way : List Step) (level : ℕ) (v : Value) (c : Cell) → cell_from way level v ≡ Some c → Tells c (highest_from level way)
way_tells [] level v c h = subst (λ d. Tells d level) (some_same (present_cell level v) c h) (sym (level_same level))
way_tells (step ∷ way) level v c h =
    let b = bind_some (field_at step.place v) (λ inner. if is_null inner then null_cell step.optional level else cell_from way (level_inside step.optional level) inner) c h in
    step_tells (is_null b.0) step.optional way level b.0 c b.2 (way_tells way (level_inside step.optional level) b.0 c)

-- the cells of a row, one for each highest level
abbrev RowProper : List ℕ → List Cell → Type 0
RowProper [] [] = Unit {0}
RowProper (top ∷ tops) (c ∷ cs) = Tells c top × RowProper tops cs
RowProper _ _ = ⊥

row_proper : (ws : List (List Step)) (r : Row) (cs : List Cell) → all_some (map (λ way. cell way r) ws) ≡ Some cs → RowProper (map highest ws) cs
row_proper [] r cs h = subst (λ ds. RowProper [] ds) (some_same [] cs h) tt
row_proper (w ∷ ws) r cs h =
    let b = bind_some (cell w r) (λ y. option_map (λ ys. y ∷ ys) (all_some (map (λ way. cell way r) ws))) cs h in
    let d = map_some (λ ys. b.0 ∷ ys) (all_some (map (λ way. cell way r) ws)) cs b.2 in
    subst (λ ds. RowProper (highest w ∷ map highest ws) ds) d.2 (way_tells w 0 r b.0 b.1, row_proper ws r d.0 d.1)

proper_fronts : (n : ℕ) (tops : List ℕ) (cs : List Cell) (css : List (List Cell)) → RowProper tops cs → AreProper n tops css → AreProper (suc n) tops (fronts cs css)
proper_fronts n [] [] [] row all = tt
proper_fronts n [] [] (ds ∷ css) row all = absurd all
proper_fronts n [] (c ∷ cs) css row all = absurd row
proper_fronts n (top ∷ tops) [] css row all = absurd row
proper_fronts n (top ∷ tops) (c ∷ cs) [] row all = absurd all
proper_fronts n (top ∷ tops) (c ∷ cs) (ds ∷ css) row all = (ap suc all.0, (row.0, all.1), proper_fronts n tops cs css row.1 all.2)

none_proper : (ws : List (List Step)) → AreProper 0 (map highest ws) (map (λ way. []) ws)
none_proper [] = tt
none_proper (w ∷ ws) = (refl, tt, none_proper ws)

pub matrix_proper : (s : Shape) (rs : List Row) → All (FitsShape s) rs → AreProper (length rs) (map highest (ways s)) (matrix s rs)
matrix_proper s [] fit = none_proper (ways s)
matrix_proper s (r ∷ rs) fit = proper_fronts (length rs) (map highest (ways s)) (cells_of s 0 r) (matrix s rs) (row_proper (ways s) r (cells_of s 0 r) (cells_found s 0 r (first_fits (FitsShape s) r rs fit))) (matrix_proper s rs (others_fit (FitsShape s) r rs fit))
