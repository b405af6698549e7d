-- Rows made of columns in two parts: the first so many, and those behind them.
use Rattle.std.proofs.Common.{◌≡◌, ℕ, ◌+◌, ◌-◌, ◌≤◌, List, [], ◌∷◌, map, drop, take, refl, sym, ap, subst, ◌∙◌, arith}
use Rattle.std.specs.List.{AllZip}
use Rattle.std.proofs.lemmas.List.{length-drop, length-take}
use Rattle.shred.specs.Shape.{Shape}
use Rattle.shred.specs.Ways.{Step, ways, highest}
use Rattle.shred.specs.Columns.{Cell, Column}
use Rattle.shred.specs.Parts.{cut_off, cut_out}
use Rattle.row_assembly.specs.Assembly.{AreEven, IsWhole, assembled, cells_in, row_count, rows_made}
use Rattle.row_assembly.specs.Mismatch.{cells_of_ways}
use Rattle.row_assembly.specs.Parts.{fronts, rests}
use Rattle.row_assembly.proofs.CutOut.{cells_cut_out, cells_dropped, cut_out_whole, so_many, tops_split}
use Rattle.row_assembly.proofs.Even.{tops_in}
use Rattle.row_assembly.proofs.Mismatched.{even_rows}
use Rattle.row_assembly.proofs.RowParts.{both, rows_of_front, rows_split}

-- ---- their cells

fronts_cells : (n : ℕ) (ws : List (List Step)) (cs : List Column) → cells_of_ways ws (fronts n (map highest ws) cs) ≡ map (take n) (cells_of_ways ws cs)
fronts_cells n [] [] = refl
fronts_cells n [] (c ∷ cs) = refl
fronts_cells n (w ∷ ws) [] = refl
fronts_cells n (w ∷ ws) (c ∷ cs) =
    ap (λ x. x ∷ cells_of_ways ws (fronts n (map highest ws) cs)) (cells_cut_out 0 n (highest w) c)
    ∙ ap (λ xs. take n (cells_in (highest w) c.levels c.values) ∷ xs) (fronts_cells n ws cs)

rests_cells : (n : ℕ) (ws : List (List Step)) (cs : List Column) → cells_of_ways ws (rests n (map highest ws) cs) ≡ map (drop n) (cells_of_ways ws cs)
rests_cells n [] [] = refl
rests_cells n [] (c ∷ cs) = refl
rests_cells n (w ∷ ws) [] = refl
rests_cells n (w ∷ ws) (c ∷ cs) =
    ap (λ x. x ∷ cells_of_ways ws (rests n (map highest ws) cs)) (cells_dropped (highest w) n c.levels c.values)
    ∙ ap (λ xs. drop n (cells_in (highest w) c.levels c.values) ∷ xs) (rests_cells n ws cs)

-- ---- they are even

-- the column of the rows behind so many of an even column is even
pub cut_off_whole : (rows n : ℕ) (way : List Step) (c : Column) → IsWhole rows way c → IsWhole (rows - n) way (cut_off n (highest way) c)
cut_off_whole rows n way c whole =
    let top = highest way in
    let before = tops_in top (take n c.levels) in
    let values = whole.values_each in
    let split = tops_split top n c.levels in
    let left = length-drop before c.values in
    record {
      levels_each = length-drop n c.levels ∙ ap (λ m. m - n) whole.levels_each;
      values_each = omega (arith, split, left, values);
    }

pub fronts_even : (rows n : ℕ) (ws : List (List Step)) (cs : List Column) → n ≤ rows → AllZip (IsWhole rows) ws cs → AllZip (IsWhole n) ws (fronts n (map highest ws) cs)
fronts_even rows n [] [] less even = tt
fronts_even rows n [] (c ∷ cs) less even = absurd even
fronts_even rows n (w ∷ ws) [] less even = absurd even
fronts_even rows n (w ∷ ws) (c ∷ cs) less even =
    let all : so_many rows 0 n ≡ n = omega (arith, less) in (
      subst (λ m. IsWhole m w (cut_out 0 n (highest w) c)) all (cut_out_whole rows 0 n w c even.0),
      fronts_even rows n ws cs less even.1,
    )

pub rests_even : (rows n : ℕ) (ws : List (List Step)) (cs : List Column) → AllZip (IsWhole rows) ws cs → AllZip (IsWhole (rows - n)) ws (rests n (map highest ws) cs)
rests_even rows n [] [] even = tt
rests_even rows n [] (c ∷ cs) even = absurd even
rests_even rows n (w ∷ ws) [] even = absurd even
rests_even rows n (w ∷ ws) (c ∷ cs) even = (cut_off_whole rows n w c even.0, rests_even rows n ws cs even.1)

pub fronts_count : (n : ℕ) (ws : List (List Step)) (cs : List Column) → n ≤ row_count cs → AllZip (IsWhole (row_count cs)) ws cs → row_count (fronts n (map highest ws) cs) ≡ n
fronts_count n [] [] less even = omega (arith, less)
fronts_count n [] (c ∷ cs) less even = absurd even
fronts_count n (w ∷ ws) [] less even = absurd even
fronts_count n (w ∷ ws) (c ∷ cs) less even = length-take n c.levels ∙ omega (arith, less)

pub rests_count : (n : ℕ) (ws : List (List Step)) (cs : List Column) → AllZip (IsWhole (row_count cs)) ws cs → row_count (rests n (map highest ws) cs) ≡ row_count cs - n
rests_count n [] [] even = omega arith
rests_count n [] (c ∷ cs) even = absurd even
rests_count n (w ∷ ws) [] even = absurd even
rests_count n (w ∷ ws) (c ∷ cs) even = length-drop n c.levels

-- ---- their rows

module _ (s : Shape) (n : ℕ) (given : List Column) (even : AreEven s given) (less : n ≤ row_count given) where
  abbrev tops : List ℕ
  tops = map highest (ways s)

  abbrev cells : List (List Cell)
  cells = cells_of_ways (ways s) given

  abbrev rows : ℕ
  rows = row_count given

  -- the columns of the first rows, and those of the rows behind them, are even
  pub front_even : AreEven s (fronts n tops given)
  front_even = subst (λ m. AllZip (IsWhole m) (ways s) (fronts n tops given)) (sym (fronts_count n (ways s) given less even)) (fronts_even rows n (ways s) given less even)

  pub rest_even : AreEven s (rests n tops given)
  rest_even = subst (λ m. AllZip (IsWhole m) (ways s) (rests n tops given)) (sym (rests_count n (ways s) given even)) (rests_even rows n (ways s) given even)

  front_rows : assembled s (fronts n tops given) ≡ rows_made s n cells
  front_rows =
      even_rows s (fronts n tops given) front_even
      ∙ (ap (λ m. rows_made s m (cells_of_ways (ways s) (fronts n tops given))) (fronts_count n (ways s) given less even)
      ∙ (ap (rows_made s n) (fronts_cells n (ways s) given) ∙ rows_of_front s n n cells (omega arith)))

  rest_rows : assembled s (rests n tops given) ≡ rows_made s (rows - n) (map (drop n) cells)
  rest_rows =
      even_rows s (rests n tops given) rest_even
      ∙ (ap (λ m. rows_made s m (cells_of_ways (ways s) (rests n tops given))) (rests_count n (ways s) given even)
      ∙ ap (rows_made s (rows - n)) (rests_cells n (ways s) given))

  -- The rows of even columns are the first so many, and then those behind them.
  pub assembled_twice : assembled s given ≡ both (assembled s (fronts n tops given)) (assembled s (rests n tops given))
  assembled_twice =
      let all : rows ≡ n + (rows - n) = omega (arith, less) in
      even_rows s given even
      ∙ (ap (λ m. rows_made s m cells) all
      ∙ (rows_split s n (rows - n) cells
      ∙ (ap (λ r. both r (rows_made s (rows - n) (map (drop n) cells))) (sym front_rows)
      ∙ ap (both (assembled s (fronts n tops given))) (sym rest_rows))))
