-- Columns are assembled to just the rows whose columns they are.
use Rattle.std.proofs.Common.{◌≡◌, ℕ, zero, suc, ◌+◌, length, List, [], ◌∷◌, ◌++◌, map, drop, Some, Result, Ok, refl, sym, ap, ◌∙◌, subst, arith}
use Rattle.std.specs.Prelude.{All}
use Rattle.std.proofs.lemmas.List.{append-nil, length-append, length-map, nil_from_length}
use Rattle.outcomes.specs.Outcome.{Said, refuses, says_nothing, never_comes, IsSaid}
use Rattle.outcomes.specs.Results.{◌>>=◌}
use Rattle.row_core.specs.Rows.{Row}
use Rattle.shred.specs.Shape.{Shape, HasFields}
use Rattle.shred.specs.Fits.{FitsShape}
use Rattle.shred.specs.Ways.{Step, ways, highest}
use Rattle.shred.specs.Columns.{Cell, Column, column_of, AreColumnsOf}
use Rattle.shred.proofs.Callers.{cells_of, cells_length, fronts, matrix, first_fits, others_fit, all_fit, columns_found}
use Rattle.row_assembly.specs.Faults.{Fault}
use Rattle.row_assembly.specs.Assembly.{heads, made, row_made, rows_made, row_count, cells_of_columns, assembled}
use Rattle.row_assembly.proofs.Rests.{bind_ok, ok_same}
use Rattle.row_assembly.proofs.MadeSound.{made_sound}
use Rattle.row_assembly.proofs.MadeComplete.{made_complete, has_way}
use Rattle.row_assembly.specs.Levels.{AreLong}
use Rattle.row_assembly.proofs.Even.{AreProper, columns_sound, columns_complete}
use Rattle.row_assembly.proofs.Proper.{some_same, matrix_proper}

-- ---- first cells and those behind them

pub heads_long : (n : ℕ) (css : List (List Cell)) → AreLong (suc n) css → length (heads css) ≡ length css
heads_long n [] long = refl
heads_long n ([] ∷ css) long = let never : 0 ≡ suc n = long.0 in absurd (omega arith)
heads_long n ((c ∷ cs) ∷ css) long = ap suc (heads_long n css long.1)

pub tails_long : (n : ℕ) (css : List (List Cell)) → AreLong (suc n) css → AreLong n (map (drop 1) css)
tails_long n [] long = tt
tails_long n ([] ∷ css) long = let never : 0 ≡ suc n = long.0 in absurd (omega arith)
tails_long n ((c ∷ cs) ∷ css) long = let one : suc (length cs) ≡ suc n = long.0 in (omega arith, tails_long n css long.1)

split_again : (n : ℕ) (css : List (List Cell)) → AreLong (suc n) css → css ≡ fronts (heads css) (map (drop 1) css)
split_again n [] long = refl
split_again n ([] ∷ css) long = let never : 0 ≡ suc n = long.0 in absurd (omega arith)
split_again n ((c ∷ cs) ∷ css) long = ap (λ x. (c ∷ cs) ∷ x) (split_again n css long.1)

heads_front : (cs : List Cell) (css : List (List Cell)) → length cs ≡ length css → heads (fronts cs css) ≡ cs
heads_front [] css same = refl
heads_front (c ∷ cs) [] same = absurd (omega arith)
heads_front (c ∷ cs) (ds ∷ css) same = let others : length cs ≡ length css = omega arith in ap (λ x. c ∷ x) (heads_front cs css others)

tails_front : (cs : List Cell) (css : List (List Cell)) → length cs ≡ length css → map (drop 1) (fronts cs css) ≡ css
tails_front [] [] same = refl
tails_front [] (ds ∷ css) same = absurd (omega arith)
tails_front (c ∷ cs) [] same = absurd (omega arith)
tails_front (c ∷ cs) (ds ∷ css) same = let others : length cs ≡ length css = omega arith in ap (λ x. ds ∷ x) (tails_front cs css others)

fronts_long : (cs : List Cell) (css : List (List Cell)) → length cs ≡ length css → length (fronts cs css) ≡ length css
fronts_long [] [] same = refl
fronts_long [] (ds ∷ css) same = absurd (omega arith)
fronts_long (c ∷ cs) [] same = absurd (omega arith)
fronts_long (c ∷ cs) (ds ∷ css) same = let others : length cs ≡ length css = omega arith in ap suc (fronts_long cs css others)

nothing_in : (css : List (List Cell)) (ws : List (List Step)) → AreLong 0 css → length css ≡ length ws → css ≡ map (λ way. []) ws
nothing_in [] [] long same = refl
nothing_in [] (w ∷ ws) long same = absurd (omega arith)
nothing_in (cs ∷ css) [] long same = absurd (omega arith)
nothing_in (cs ∷ css) (w ∷ ws) long same =
    let others : length css ≡ length ws = omega arith in
    ap (λ x. x ∷ css) (nil_from_length cs long.0) ∙ ap (λ xs. [] ∷ xs) (nothing_in css ws long.1 others)

-- ---- rows that are made

abbrev Rows : Shape → List (List Cell) → List Row → Type 0
Rows s css rs = All (FitsShape s) rs × (css ≡ matrix s rs)

none_fit : (s : Shape) → All (FitsShape s) []
none_fit s = λ k d h. absurd (omega (arith, h))

pub rows_sound : (s : Shape) (n : ℕ) (css : List (List Cell)) (rs : List Row) → AreLong n css → length css ≡ length (ways s) → rows_made s n css ≡ Ok rs → All (FitsShape s) rs × (css ≡ matrix s rs)
rows_sound s zero css rs long same h = subst (λ xs. Rows s css xs) (ok_same [] rs h) (none_fit s, nothing_in css (ways s) long same)
rows_sound s (suc n) css rs long same h =
    let left = map (drop 1) css in
    let b = bind_ok (row_made s (heads css)) (λ row. rows_made s n left >>= λ others. Ok (row ∷ others)) rs h in
    let a = bind_ok (made s 0 (heads css)) (λ row. Ok row.0) b.0 b.1 in
    let d = bind_ok (rows_made s n left) (λ others. Ok (b.0 ∷ others)) rs b.2 in
    let one = made_sound s 0 (heads css) a.0.0 a.0.1 a.1 in
    let cells = cells_of s 0 a.0.0 in
    let total : length css ≡ length cells + length a.0.1 = sym (heads_long n css long) ∙ (ap length one.1 ∙ length-append cells a.0.1) in
    let counted = cells_length s 0 a.0.0 one.0 in
    let none : length a.0.1 ≡ 0 = omega (arith, total, counted, same) in
    let first : heads css ≡ cells = one.1 ∙ (ap (λ l. cells ++ l) (nil_from_length a.0.1 none) ∙ append-nil cells) in
    let others = rows_sound s n left d.0 (tails_long n css long) (length-map css (drop 1) ∙ same) d.1 in
    let all : css ≡ matrix s (a.0.0 ∷ d.0) = split_again n css long ∙ (ap (λ cs. fronts cs left) first ∙ ap (fronts cells) others.1) in
    let these : (a.0.0 ∷ d.0) ≡ rs = ap (λ r. r ∷ d.0) (ok_same a.0.0 b.0 a.2) ∙ ok_same (b.0 ∷ d.0) rs d.2 in
    subst (λ xs. Rows s css xs) these (all_fit (FitsShape s) a.0.0 d.0 one.0 others.0, all)

matrix_long : (s : Shape) (rs : List Row) → All (FitsShape s) rs → length (matrix s rs) ≡ length (ways s)
matrix_long s [] fit = length-map (ways s) (λ way. [])
matrix_long s (r ∷ rs) fit =
    let others = matrix_long s rs (others_fit (FitsShape s) r rs fit) in
    fronts_long (cells_of s 0 r) (matrix s rs) (cells_length s 0 r (first_fits (FitsShape s) r rs fit) ∙ sym others) ∙ others

rows_complete : (s : Shape) (rs : List Row) → HasFields s → All (FitsShape s) rs → rows_made s (length rs) (matrix s rs) ≡ Ok rs
rows_complete s [] has fit = refl
rows_complete s (r ∷ rs) has fit =
    let first = first_fits (FitsShape s) r rs fit in
    let rest = others_fit (FitsShape s) r rs fit in
    let cells = cells_of s 0 r in
    let same : length cells ≡ length (matrix s rs) = cells_length s 0 r first ∙ sym (matrix_long s rs rest) in
    let one : made s 0 cells ≡ Ok (r, []) = ap (made s 0) (sym (append-nil cells)) ∙ made_complete s 0 r [] has first in
    let others = rows_complete s rs has rest in
    rw (heads_front cells (matrix s rs) same, tails_front cells (matrix s rs) same, one, others) refl

-- ---- whole columns

pub assembled_sound : (s : Shape) (given : List Column) (rs : List Row) → assembled s given ≡ Ok rs → AreColumnsOf s rs given
unfolding assembled
assembled_sound s given rs h =
    let tops = map highest (ways s) in
    let b = bind_ok (cells_of_columns (row_count given) tops given) (λ cells. rows_made s (row_count given) cells) rs h in
    let opened = columns_sound (row_count given) tops given b.0 b.1 in
    let rows = rows_sound s (row_count given) b.0 rs opened.2 (opened.1 ∙ length-map (ways s) highest) b.2 in
    record {
      fit = rows.0;
      are = columns_found s rs rows.0 ∙ (ap (λ css. Some (map column_of css)) (sym rows.1) ∙ ap (λ (cs : List Column). Some cs) (sym opened.0));
    }

count_rows : (n : ℕ) (tops : List ℕ) (css : List (List Cell)) (top : ℕ) (others : List ℕ) → tops ≡ top ∷ others → AreProper n tops css → row_count (map column_of css) ≡ n
count_rows n [] css top others is proper = absurd cc
count_rows n (t ∷ tops) [] top others is proper = absurd proper
count_rows n (t ∷ tops) (cells ∷ css) top others is proper = length-map cells (λ c. c.level) ∙ proper.0

pub assembled_complete : (s : Shape) (rs : List Row) (given : List Column) → HasFields s → AreColumnsOf s rs given → assembled s given ≡ Ok rs
unfolding assembled
assembled_complete s rs given has are =
    let css = matrix s rs in
    let tops = map highest (ways s) in
    let these : map column_of css ≡ given = some_same (map column_of css) given (sym (columns_found s rs are.fit) ∙ are.are) in
    let proper = matrix_proper s rs are.fit in
    let way = has_way s has in
    let count : row_count (map column_of css) ≡ length rs = count_rows (length rs) tops css (highest way.0) (map highest way.1) (ap (map highest) way.2) proper in
    let opened = columns_complete (length rs) tops css proper in
    let rows = rows_complete s rs has are.fit in
    let all : (cells_of_columns (length rs) tops (map column_of css) >>= λ cells. rows_made s (length rs) cells) ≡ Ok rs = rw opened rows in
    ap (λ cs. cells_of_columns (row_count cs) tops cs >>= λ cells. rows_made s (row_count cs) cells) (sym these) ∙ (ap (λ n. cells_of_columns n tops (map column_of css) >>= λ cells. rows_made s n cells) count ∙ all)

-- of these columns there are no other rows
pub same_rows_given : (s : Shape) (given : List Column) (rs ss : List Row) → HasFields s → AreColumnsOf s rs given → AreColumnsOf s ss given → rs ≡ ss
same_rows_given s given rs ss has one other = ok_same rs ss (sym (assembled_complete s rs given has one) ∙ assembled_complete s ss given has other)

-- what is said of rows that are there is nothing
pub nothing_said : (said : Said Fault) (given : Result (List Row) Fault) (rs : List Row) → given ≡ Ok rs → IsSaid said given → said ≡ says_nothing
nothing_said (refuses fault) given rs is h = let never = sym is ∙ h in absurd cc
nothing_said says_nothing given rs is h = refl
nothing_said never_comes given rs is h = absurd h
