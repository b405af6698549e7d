-- Columns opened and rows made, one after another.
use Rattle.std.proofs.Common.{◌≡◌, ℕ, suc, ◌+◌, ◌<◌, ◌≤◌, length, get_or, take, drop, set, List, [], ◌∷◌, ◌++◌, map, Vec, Global, Option, Some, None, option_map, option_to_list, Result, Ok, Err, refl, sym, ap, ◌∙◌, arith}
use Rattle.std.specs.List.{filter_map, cons_option}
use Rattle.std.proofs.lemmas.List.{drop_more, drop_all, append-nil, map_push, take_more, take_more_set, drop-set-lt, drop-drop}
use Rattle.outcomes.specs.Outcome.{Said, refuses, says_nothing, never_comes, IsSaid}
use Rattle.outcomes.specs.Results.{◌>>=◌}
use Rattle.outcomes.proofs.Callers.{with_front, regroup}
use Rattle.row_core.specs.Rows.{Row}
use Rattle.row_core.specs.declared.value.Value.{Value}
use Rattle.shred.specs.Shape.{Shape}
use Rattle.shred.specs.Ways.{highest}
use Rattle.shred.specs.Columns.{Column}
use Rattle.shred.specs.Columns as columns
use Rattle.shred.specs.Views.{cell_view, cells_view, way_view, way_views}
use Rattle.shred.specs.declared.ways.Step.{Step}
use Rattle.shred.specs.declared.columns.Cell.{Cell}
use Rattle.row_assembly.specs.Faults.{Fault, uneven_columns}
use Rattle.row_assembly.specs.Assembly.{heads, first_cell, row_made, rows_made, cells_of_column, cells_of_columns}
use Rattle.row_assembly.specs.Views.{reader_view, reader_views}
use Rattle.row_assembly.specs.declared.cells.Reader.{Reader}

-- ---- rows

-- a refusal of the first step is that of the whole
bind_said : {A C : Type 0} (said : Said Fault) (front : List C) (first : Result A Fault) (next : A → Result (List C) Fault) (total : Result (List C) Fault) → IsSaid said first → with_front front (first >>= next) ≡ total → IsSaid said total
bind_said (refuses fault) front first next total h so_far =
    let one : with_front front (first >>= next) ≡ Err fault = rw h refl in
    sym so_far ∙ one
bind_said says_nothing front first next total h so_far = tt
bind_said never_comes front first next total h so_far = absurd h

pub rows_fail : (shape : Shape) (n k : ℕ) (said : Said Fault) (front : List Row) (css : List (List columns.Cell)) (total : Result (List Row) Fault) → n ≡ suc k → IsSaid said (row_made shape (heads css)) → with_front front (rows_made shape n css) ≡ total → IsSaid said total
rows_fail shape n k said front css total more h so_far =
    bind_said said front (row_made shape (heads css)) (λ row. rows_made shape k (map (drop 1) css) >>= λ others. Ok (row ∷ others)) total h (ap (λ m. with_front front (rows_made shape m css)) (sym more) ∙ so_far)

pub rows_on : (shape : Shape) (n k : ℕ) (r : Row) (front : List Row) (css : List (List columns.Cell)) (total : Result (List Row) Fault) → n ≡ suc k → row_made shape (heads css) ≡ Ok r → with_front front (rows_made shape n css) ≡ total
    → with_front (front ++ r ∷ []) (rows_made shape k (map (drop 1) css)) ≡ total
rows_on shape n k r front css total more h so_far =
    let one : with_front front (rows_made shape (suc k) css) ≡ with_front (front ++ r ∷ []) (rows_made shape k (map (drop 1) css)) = rw h (regroup front (r ∷ []) (rows_made shape k (map (drop 1) css))) in
    sym one ∙ (ap (λ m. with_front front (rows_made shape m css)) (sym more) ∙ so_far)

pub rows_done : (shape : Shape) (n : ℕ) (front : List Row) (css : List (List columns.Cell)) (total : Result (List Row) Fault) → n ≡ 0 → with_front front (rows_made shape n css) ≡ total → total ≡ Ok front
rows_done shape n front css total none so_far =
    sym so_far ∙ (ap (λ m. with_front front (rows_made shape m css)) none ∙ ap (λ (rs : List Row). Ok rs) (append-nil front))

-- ---- columns

pub nothing_left : {A : Type 0} (xs : List A) → xs ≡ drop 1 xs → xs ≡ []
nothing_left [] e = refl
nothing_left (x ∷ xs) e = let n : suc (length xs) ≡ length xs = ap length e in absurd (omega arith)

pub no_column : {X : Type 0} (view : X → Column) (rows : ℕ) (tops : List ℕ) (i : ℕ) (cs rest : List X) (front : List (List columns.Cell)) (total : Result (List (List columns.Cell)) Fault) → i < length tops → cs ≡ rest → rest ≡ drop 1 cs
    → with_front front (cells_of_columns rows (drop i tops) (map view cs)) ≡ total → total ≡ Err uneven_columns
no_column view rows tops i cs rest front total h same shorter so_far =
    let empty : cs ≡ [] = nothing_left cs (same ∙ shorter) in
    let here = drop_more tops i 0 h in
    let one : with_front front (cells_of_columns rows (drop i tops) (map view cs)) ≡ Err uneven_columns = rw (here, empty) refl in
    sym so_far ∙ one

pub column_on : (rows : ℕ) (tops : List ℕ) (i : ℕ) (cs rest : List Column) (k : Column) (cells : List columns.Cell) (front : List (List columns.Cell)) (total : Result (List (List columns.Cell)) Fault) → i < length tops → cs ≡ k ∷ rest → cells_of_column rows (get_or tops i 0) k ≡ Some cells
    → with_front front (cells_of_columns rows (drop i tops) cs) ≡ total → with_front (front ++ cells ∷ []) (cells_of_columns rows (drop (i + 1) tops) rest) ≡ total
column_on rows tops i cs rest k cells front total h is opened so_far =
    let here = drop_more tops i 0 h in
    let one : with_front front (cells_of_columns rows (drop i tops) cs) ≡ with_front (front ++ cells ∷ []) (cells_of_columns rows (drop (i + 1) tops) rest) = rw (here, is, opened) (regroup front (cells ∷ []) (cells_of_columns rows (drop (i + 1) tops) rest)) in
    sym one ∙ so_far

-- all are put into a list
pub all_listed : {Y Z : Type 0} (g : Y → Z) (zs : List Z) (ys : List Y) (i : ℕ) (total : List Z) → length ys ≤ i → zs ++ map g (drop i ys) ≡ total → zs ≡ total
all_listed g zs ys i total h so_far =
    let end : zs ++ map g (drop i ys) ≡ zs = rw (drop_all i ys h) (append-nil zs) in
    sym end ∙ so_far

pub highest_each : (ws : List (Vec Step Global)) → map (λ w. highest (way_view w.items)) ws ≡ map highest (way_views ws)
highest_each [] = refl
highest_each (w ∷ ws) = ap (λ xs. highest (way_view w.items) ∷ xs) (highest_each ws)

-- ---- one cell of each column

cons_nil : {B : Type 0} (o : Option B) → cons_option o [] ≡ option_to_list o
cons_nil None = refl
cons_nil (Some y) = refl

cons_front : {B : Type 0} (o : Option B) (ys zs : List B) → cons_option o (ys ++ zs) ≡ cons_option o ys ++ zs
cons_front None ys zs = refl
cons_front (Some y) ys zs = refl

pub one_cell : (before now : List (Cell Value)) (r : Option (Cell Value)) (x : Cell Value) → r ≡ Some x → now ≡ before ++ x ∷ [] → now ≡ before ++ option_to_list r
one_cell before now r x is put = rw is put

pub no_cell : (before now : List (Cell Value)) (r : Option (Cell Value)) → r ≡ None → now ≡ before → now ≡ before ++ option_to_list r
no_cell before now r is same = rw (is, same) (sym (append-nil before))

pub cells_put : (before : List (Cell Value)) (r : Option (Cell Value)) → cells_view (before ++ option_to_list r) ≡ cells_view before ++ option_to_list (option_map cell_view r)
cells_put before None = ap cells_view (append-nil before) ∙ sym (append-nil (cells_view before))
cells_put before (Some c) = map_push cell_view before c

pub filter_push : {A B : Type 0} (f : A → Option B) (xs : List A) (x : A) → filter_map f (xs ++ x ∷ []) ≡ filter_map f xs ++ option_to_list (f x)
filter_push f [] x = cons_nil (f x)
filter_push f (y ∷ xs) x = ap (cons_option (f y)) (filter_push f xs x) ∙ cons_front (f y) (filter_map f xs) (option_to_list (f x))

pub item_on : (old now : List Reader) (i : ℕ) (x : Reader) → i < length now → i < length old → drop i now ≡ drop i old → x ≡ get_or now i x → x ≡ get_or old i x
item_on old now i x h k same at =
    let first = drop_more now i x h in
    let second = drop_more old i x k in
    let heads_same : get_or now i x ∷ drop (i + 1) now ≡ get_or old i x ∷ drop (i + 1) old = sym first ∙ (same ∙ second) in
    let e : get_or now i x ≡ get_or old i x = cc in
    at ∙ e

pub cells_on : (old : List Reader) (i : ℕ) (x : Reader) (before now : List (Cell Value)) (r : Option (Cell Value)) → i < length old → x ≡ get_or old i x → option_map cell_view r ≡ first_cell (reader_view x) → now ≡ before ++ option_to_list r
    → cells_view before ≡ heads (reader_views (take i old)) → cells_view now ≡ heads (reader_views (take (i + 1) old))
cells_on old i x before now r h at given put so_far =
    let more : reader_views (take (i + 1) old) ≡ reader_views (take i old) ++ reader_view x ∷ [] = ap reader_views (take_more old i x h) ∙ (map_push reader_view (take i old) (get_or old i x) ∙ ap (λ y. reader_views (take i old) ++ reader_view y ∷ []) (sym at)) in
    let all : heads (reader_views (take (i + 1) old)) ≡ heads (reader_views (take i old)) ++ option_to_list (first_cell (reader_view x)) = ap heads more ∙ filter_push first_cell (reader_views (take i old)) (reader_view x) in
    let mine : cells_view now ≡ cells_view before ++ option_to_list (option_map cell_view r) = ap cells_view put ∙ cells_put before r in
    mine ∙ (ap (λ cs. cs ++ option_to_list (option_map cell_view r)) so_far ∙ (ap (λ o. heads (reader_views (take i old)) ++ option_to_list o) given ∙ sym all))

pub left_on : (old now : List Reader) (i : ℕ) (x y : Reader) → i < length now → i < length old → x ≡ get_or old i x → reader_view y ≡ drop 1 (reader_view x) → reader_views (take i now) ≡ map (drop 1) (reader_views (take i old))
    → reader_views (take (i + 1) (set now i y)) ≡ map (drop 1) (reader_views (take (i + 1) old))
left_on old now i x y h k at given so_far =
    let mine : reader_views (take (i + 1) (set now i y)) ≡ reader_views (take i now) ++ reader_view y ∷ [] = ap reader_views (take_more_set now i y h) ∙ map_push reader_view (take i now) y in
    let more : reader_views (take (i + 1) old) ≡ reader_views (take i old) ++ reader_view x ∷ [] = ap reader_views (take_more old i x k) ∙ (map_push reader_view (take i old) (get_or old i x) ∙ ap (λ z. reader_views (take i old) ++ reader_view z ∷ []) (sym at)) in
    let all : map (drop 1) (reader_views (take (i + 1) old)) ≡ map (drop 1) (reader_views (take i old)) ++ drop 1 (reader_view x) ∷ [] = ap (map (drop 1)) more ∙ map_push (drop 1) (reader_views (take i old)) (reader_view x) in
    mine ∙ (ap (λ cs. cs ++ reader_view y ∷ []) so_far ∙ (ap (λ c. map (drop 1) (reader_views (take i old)) ++ c ∷ []) given ∙ sym all))

pub others_on : (old now : List Reader) (i : ℕ) (y : Reader) → drop i now ≡ drop i old → drop (i + 1) (set now i y) ≡ drop (i + 1) old
others_on old now i y same =
    let past : i < i + 1 = omega arith in
    drop-set-lt (i + 1) now i y past ∙ (sym (drop-drop 1 i now) ∙ (ap (drop 1) same ∙ drop-drop 1 i old))
