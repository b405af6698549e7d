-- The cells of rows that fit, column by column.
use Rattle.std.proofs.Common.{◌≡◌, ℕ, zero, suc, ◌<◌, length, get_or, List, [], ◌∷◌, map, Option, Some, None, option_map, refl, ap, ◌∙◌, arith}
use Rattle.std.specs.Prelude.{All}
use Rattle.outcomes.specs.Options.{◌>>=◌}
use Rattle.row_core.specs.Rows.{Row}
use Rattle.shred.specs.Shape.{Shape}
use Rattle.shred.specs.Fits.{FitsShape}
use Rattle.shred.specs.Ways.{Step, ways}
use Rattle.shred.specs.Columns.{Cell, Column, cell, column, columns, column_of, all_some}
use Rattle.shred.proofs.RowCells.{cells_of, cells_found}

-- each of these cells in front of its column
abbrev pub fronts : List Cell → List (List Cell) → List (List Cell)
fronts [] css = []
fronts (c ∷ cs) [] = []
fronts (c ∷ cs) (ds ∷ css) = (c ∷ ds) ∷ fronts cs css

abbrev pub matrix : Shape → List Row → List (List Cell)
matrix s [] = map (λ way. []) (ways s)
matrix s (r ∷ rs) = fronts (cells_of s 0 r) (matrix s rs)

pub first_fits : (P : Row → Type 0) (r : Row) (rs : List Row) → All P (r ∷ rs) → P r
first_fits P r rs all = all 0 r (omega arith)

pub others_fit : (P : Row → Type 0) (r : Row) (rs : List Row) → All P (r ∷ rs) → All P rs
others_fit P r rs all = λ k d h. all (suc k) d (omega (arith, h))

fit_at : (P : Row → Type 0) (r : Row) (rs : List Row) → P r → All P rs → (k : ℕ) (d : Row) → k < length (r ∷ rs) → P (get_or (r ∷ rs) k d)
fit_at P r rs one all zero d h = one
fit_at P r rs one all (suc k) d h = all k d (omega (arith, h))

pub all_fit : (P : Row → Type 0) (r : Row) (rs : List Row) → P r → All P rs → All P (r ∷ rs)
all_fit P r rs one all = fit_at P r rs one all

-- ---- the columns are the matrix

abbrev grid : List (List Step) → List Row → Option (List (List Cell))
grid ws rs = all_some (map (λ way. all_some (map (cell way) rs)) ws)

grid_none : (ws : List (List Step)) → grid ws [] ≡ Some (map (λ way. []) ws)
grid_none [] = refl
grid_none (w ∷ ws) = ap (option_map (λ css. [] ∷ css)) (grid_none ws)

grid_step : (one : Option Cell) (others cells : Option (List Cell)) (css : Option (List (List Cell))) → ((one >>= λ c. option_map (λ cs. c ∷ cs) others) >>= λ y. option_map (λ ys. y ∷ ys) (cells >>= λ cs. option_map (fronts cs) css))
    ≡ ((one >>= λ c. option_map (λ cs. c ∷ cs) cells) >>= λ cs. option_map (fronts cs) (others >>= λ k. option_map (λ ks. k ∷ ks) css))
grid_step None others cells css = refl
grid_step (Some c) None None css = refl
grid_step (Some c) None (Some cs) css = refl
grid_step (Some c) (Some ds) None css = refl
grid_step (Some c) (Some ds) (Some cs) None = refl
grid_step (Some c) (Some ds) (Some cs) (Some css) = refl

grid_more : (ws : List (List Step)) (r : Row) (rs : List Row) → grid ws (r ∷ rs) ≡ (all_some (map (λ way. cell way r) ws) >>= λ cs. option_map (fronts cs) (grid ws rs))
grid_more [] r rs = refl
grid_more (w ∷ ws) r rs = ap (λ (o : Option (List (List Cell))). all_some (map (cell w) (r ∷ rs)) >>= λ y. option_map (λ ys. y ∷ ys) o) (grid_more ws r rs) ∙ grid_step (cell w r) (all_some (map (cell w) rs)) (all_some (map (λ way. cell way r) ws)) (grid ws rs)

grid_found : (s : Shape) (rs : List Row) → All (FitsShape s) rs → grid (ways s) rs ≡ Some (matrix s rs)
grid_found s [] fit = grid_none (ways s)
grid_found s (r ∷ rs) fit =
    let one = cells_found s 0 r (first_fits (FitsShape s) r rs fit) in
    let others = grid_found s rs (others_fit (FitsShape s) r rs fit) in
    grid_more (ways s) r rs ∙ rw (one, others) refl

columns_step : (one : Option (List Cell)) (others : Option (List (List Cell))) → (option_map column_of one >>= λ y. option_map (λ ys. y ∷ ys) (option_map (map column_of) others)) ≡ option_map (map column_of) (one >>= λ y. option_map (λ ys. y ∷ ys) others)
columns_step None others = refl
columns_step (Some cs) None = refl
columns_step (Some cs) (Some css) = refl

columns_grid : (ws : List (List Step)) (rs : List Row) → all_some (map (λ way. column way rs) ws) ≡ option_map (map column_of) (grid ws rs)
columns_grid [] rs = refl
columns_grid (w ∷ ws) rs = ap (λ (o : Option (List Column)). column w rs >>= λ y. option_map (λ ys. y ∷ ys) o) (columns_grid ws rs) ∙ columns_step (all_some (map (cell w) rs)) (grid ws rs)

-- rows that fit have columns
pub columns_found : (s : Shape) (rs : List Row) → All (FitsShape s) rs → columns s rs ≡ Some (map column_of (matrix s rs))
columns_found s rs fit = columns_grid (ways s) rs ∙ ap (option_map (map column_of)) (grid_found s rs fit)
