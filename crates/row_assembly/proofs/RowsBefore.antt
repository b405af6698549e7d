-- The rows before the one that can't be made are those of the columns cut to so many rows.
use Rattle.std.proofs.Common.{◌≡◌, ◌==◌, ℕ, zero, suc, ◌+◌, ◌<◌, ◌≤◌, length, List, [], ◌∷◌, map, drop, take, Bool, true, false, cond, Some, Result, Ok, Err, refl, sym, ap, ◌∙◌, subst, arith}
use Rattle.std.specs.Prelude.{◌↔◌}
use Rattle.std.proofs.Math.Seq.{take-nil}
use Rattle.std.proofs.lemmas.List.{take-map, take_all, length-map, length-take-le, append-nil}
use Rattle.std.proofs.lemmas.List.Sums.{sum_by-cons}
use Rattle.row_core.specs.Rows.{Value, Row}
use Rattle.schema_tree.specs.Fault.{Path}
use Rattle.shred.specs.Shape.{Shape, HasFields}
use Rattle.shred.specs.Ways.{Step, ways, highest}
use Rattle.shred.specs.Columns.{Cell, Column, column_of}
use Rattle.shred.proofs.Callers.{cells_of, cells_length, matrix, columns_found}
use Rattle.row_assembly.specs.Faults.{Fault, uneven_columns, level_mismatch}
use Rattle.row_assembly.specs.Assembly.{AreEven, cells_in, heads, made, row_made, rows_made, row_count, assembled}
use Rattle.row_assembly.specs.Mismatch.{cells_of_ways, cells_at, MakesRow, FailsFirst, IsMismatch, cut, cut_columns, StopsAt}
use Rattle.row_assembly.proofs.MadeComplete.{made_complete}
use Rattle.row_assembly.specs.Levels.{AreLong}
use Rattle.row_assembly.proofs.Even.{columns_sound, levels_of, found_in, tops_in, levels_again}
use Rattle.row_assembly.proofs.Assembled.{heads_long, tails_long, rows_sound}
use Rattle.row_assembly.proofs.Mismatched.{begun, begins_fewer, behind, drop_none, tails_behind, rows_found, even_rows, mismatch_sound}
use Rattle.row_assembly.proofs.Uneven.{rows_fair, even_opens}

-- ---- cells that are cut

-- one more level is counted, or not
pub tops_more : (b : Bool) (top l : ℕ) (ls : List ℕ) → (l == top) ≡ b → tops_in top (l ∷ ls) ≡ cond b 1 0 + tops_in top ls
tops_more b top l ls is = sum_by-cons (λ level. cond (level == top) 1 0) l ls ∙ ap (λ m. cond m 1 0 + tops_in top ls) is

none_cut : (top n : ℕ) (ls : List ℕ) → found_in (take n (cells_in top ls [])) ≡ []
none_cut top zero ls = refl
none_cut top (suc n) [] = refl
none_cut top (suc n) (l ∷ ls) = none_cut top n ls

values_on : (b : Bool) (top n l : ℕ) (ls : List ℕ) (v : Value) (vs : List Value) → (l == top) ≡ b → found_in (take n (cells_in top ls vs)) ≡ take (tops_in top (take n ls)) vs → found_in (take n (cells_in top ls (v ∷ vs))) ≡ take (tops_in top (take n ls)) (v ∷ vs)
    → found_in (take (suc n) (cells_in top (l ∷ ls) (v ∷ vs))) ≡ take (tops_in top (take (suc n) (l ∷ ls))) (v ∷ vs)
values_on true top n l ls v vs is one other =
    let counted = tops_more true top l (take n ls) is in
    let more : tops_in top (l ∷ take n ls) ≡ suc (tops_in top (take n ls)) = omega (arith, counted) in
    let left : found_in (take (suc n) (cells_in top (l ∷ ls) (v ∷ vs))) ≡ v ∷ found_in (take n (cells_in top ls vs)) = rw is refl in
    left ∙ (ap (λ ws. v ∷ ws) one ∙ ap (λ m. take m (v ∷ vs)) (sym more))
values_on false top n l ls v vs is one other =
    let counted = tops_more false top l (take n ls) is in
    let same : tops_in top (l ∷ take n ls) ≡ tops_in top (take n ls) = omega (arith, counted) in
    let left : found_in (take (suc n) (cells_in top (l ∷ ls) (v ∷ vs))) ≡ found_in (take n (cells_in top ls (v ∷ vs))) = rw is refl in
    left ∙ (other ∙ ap (λ m. take m (v ∷ vs)) (sym same))

values_cut : (top n : ℕ) (ls : List ℕ) (vs : List Value) → found_in (take n (cells_in top ls vs)) ≡ take (tops_in top (take n ls)) vs
values_cut top zero ls vs = refl
values_cut top (suc n) [] vs = refl
values_cut top (suc n) (l ∷ ls) [] = none_cut top n ls ∙ sym (take-nil (tops_in top (take (suc n) (l ∷ ls))))
values_cut top (suc n) (l ∷ ls) (v ∷ vs) = values_on (l == top) top n l ls v vs refl (values_cut top n ls vs) (values_cut top n ls (v ∷ vs))

column_cut : (n : ℕ) (way : List Step) (c : Column) → column_of (take n (cells_in (highest way) c.levels c.values)) ≡ cut n way c
column_cut n way c =
    let cells = cells_in (highest way) c.levels c.values in
    let levels : levels_of (take n cells) ≡ take n c.levels = sym (take-map (λ (d : Cell). d.level) n cells) ∙ ap (take n) (levels_again (highest way) c.levels c.values) in
    let values = values_cut (highest way) n c.levels c.values in
    λ i. record { levels = levels i; values = values i }

columns_cut : (n : ℕ) (ws : List (List Step)) (cs : List Column) → map column_of (map (take n) (cells_of_ways ws cs)) ≡ cut_columns n ws cs
columns_cut n [] [] = refl
columns_cut n [] (c ∷ cs) = refl
columns_cut n (w ∷ ws) [] = refl
columns_cut n (w ∷ ws) (c ∷ cs) = ap (λ d. d ∷ map column_of (map (take n) (cells_of_ways ws cs))) (column_cut n w c) ∙ ap (λ ds. cut n w c ∷ ds) (columns_cut n ws cs)

-- ---- rows of cells that are cut

pub heads_cut : (i : ℕ) (css : List (List Cell)) → heads (map (take (suc i)) css) ≡ heads css
heads_cut i [] = refl
heads_cut i ([] ∷ css) = heads_cut i css
heads_cut i ((c ∷ cs) ∷ css) = ap (λ xs. c ∷ xs) (heads_cut i css)

pub tails_cut : (i : ℕ) (css : List (List Cell)) → map (drop 1) (map (take (suc i)) css) ≡ map (take i) (map (drop 1) css)
tails_cut i [] = refl
tails_cut i ([] ∷ css) = ap (λ cs. cs ∷ map (drop 1) (map (take (suc i)) css)) (sym (take-nil i)) ∙ ap (λ xs. take i [] ∷ xs) (tails_cut i css)
tails_cut i ((c ∷ cs) ∷ css) = ap (λ xs. take i cs ∷ xs) (tails_cut i css)

cut_long : (i n : ℕ) (css : List (List Cell)) → i ≤ n → AreLong n css → AreLong i (map (take i) css)
cut_long i n [] less long = tt
cut_long i n (cs ∷ css) less long = let one = long.0 in (length-take-le i cs (omega (arith, less, one)), cut_long i n css less long.1)

row_again : (s : Shape) (cells : List Cell) → HasFields s → length cells ≡ length (ways s) → MakesRow s cells → (row : Row) × (row_made s cells ≡ Ok row)
row_again s cells has long b =
    let mine = cells_of s 0 b.row in
    let counted = cells_length s 0 b.row b.fits in
    let same : cells ≡ mine = sym (take_all (length (ways s)) cells (omega (arith, long))) ∙ (sym (begun s (length (ways s)) cells b) ∙ take_all (length (ways s)) mine (omega (arith, counted))) in
    let one : made s 0 cells ≡ Ok (b.row, []) = ap (made s 0) (same ∙ sym (append-nil mine)) ∙ made_complete s 0 b.row [] has b.fits in
    (b.row, rw one refl)

abbrev MadeBefore : Shape → ℕ → List (List Cell) → Type 0
MadeBefore s i css = (rs : List Row) × (length rs ≡ i) × (rows_made s i (map (take i) css) ≡ Ok rs)

rows_again : (s : Shape) (i n : ℕ) (css : List (List Cell)) → HasFields s → AreLong n css → length css ≡ length (ways s) → i ≤ n → ((j : ℕ) → j < i → MakesRow s (behind j css)) → MadeBefore s i css
rows_again s zero n css has long same less each = ([], refl, refl)
rows_again s (suc i) zero css has long same less each = absurd (omega (arith, less))
rows_again s (suc i) (suc n) css has long same less each =
    let left = map (drop 1) css in
    let fewer : i ≤ n = omega (arith, less) in
    let there : MakesRow s (heads css) = subst (λ xs. MakesRow s (heads xs)) (drop_none css) (each 0 (omega arith)) in
    let first = row_again s (heads css) has (heads_long n css long ∙ same) there in
    let others = rows_again s i n left has (tails_long n css long) (length-map css (drop 1) ∙ same) fewer (λ j before. subst (λ xs. MakesRow s (heads xs)) (sym (tails_behind j css)) (each (suc j) (omega (arith, before)))) in
    (first.0 ∷ others.0, ap suc others.1, rw (heads_cut i css, tails_cut i css, first.1, others.2) refl)

-- ---- whole columns

no_whole_row : (s : Shape) (given : List Column) (place leaf : ℕ) → FailsFirst s given place leaf → MakesRow s (cells_at s given place) → ⊥
no_whole_row s given place leaf f b =
    let within = f.is_leaf in
    f.no_row (begins_fewer s (length (ways s)) (leaf + 1) (cells_at s given place) (omega (arith, within)) b)

pub stops : (s : Shape) (given : List Column) (place leaf : ℕ) → HasFields s → AreEven s given → FailsFirst s given place leaf → StopsAt s given place
stops s given place leaf has even f =
    let css = cells_of_ways (ways s) given in
    let is_place = f.is_place in
    let parts = columns_sound (row_count given) (map highest (ways s)) given css (even_opens (row_count given) (ways s) given even) in
    let counted : length css ≡ length (ways s) = parts.1 ∙ length-map (ways s) highest in
    let before : place ≤ row_count given = omega (arith, is_place) in
    let again = rows_again s place (row_count given) css has parts.2 counted before f.rows_before in
    let made_rows = rows_sound s place (map (take place) css) again.0 (cut_long place (row_count given) css before parts.2) (length-map css (take place) ∙ counted) again.2 in
    let whole : map column_of (matrix s again.0) ≡ cut_columns place (ways s) given = ap (map column_of) (sym made_rows.1) ∙ columns_cut place (ways s) given in
    record {
      is_place = is_place;
      rows = again.0;
      so_many = again.1;
      before = record { fit = made_rows.0; are = columns_found s again.0 made_rows.0 ∙ ap (λ (cs : List Column). Some cs) whole };
      no_row = no_whole_row s given place leaf f;
    }

abbrev Refused : Shape → List Column → Type 0
Refused s given = (path : Path) × (assembled s given ≡ Err (level_mismatch path))

refused_from : (s : Shape) (given : List Column) (r : Result (List Row) Fault) (place : ℕ) → assembled s given ≡ r → AreEven s given → StopsAt s given place → Refused s given
refused_from s given (Ok rs) place is even stop =
    absurd (stop.no_row (rows_found s (row_count given) (cells_of_ways (ways s) given) rs place (sym (even_rows s given even) ∙ is) stop.is_place))
refused_from s given (Err uneven_columns) place is even stop = absurd (rows_fair s (row_count given) (cells_of_ways (ways s) given) (sym (even_rows s given even) ∙ is))
refused_from s given (Err (level_mismatch path)) place is even stop = (path, is)

stops_from : (s : Shape) (given : List Column) (path : Path) → HasFields s → IsMismatch s given path → AreEven s given × ((place : ℕ) × StopsAt s given place)
stops_from s given path has m = (m.even, (m.place, stops s given m.place m.leaf has m.even m.fails))

pub refused_where_stops : (s : Shape) (given : List Column) → HasFields s → ((path : Path) × (assembled s given ≡ Err (level_mismatch path))) ↔ (AreEven s given × ((place : ℕ) × StopsAt s given place))
refused_where_stops s given has = (λ h. stops_from s given h.0 has (mismatch_sound s given h.0 has h.1), λ h. refused_from s given (assembled s given) h.1.0 refl h.0 h.1.1)
