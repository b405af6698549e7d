-- The columns of rows suit the leaves of a table just where each row conforms and its texts are UTF-8.
use Rattle.std.proofs.Common.{◌≡◌, ℕ, suc, ◌&&◌, length, All, List, [], ◌∷◌, map, Bool, true, false, Option, Some, None, refl, sym, ap, subst, ◌∙◌, arith}
use Rattle.std.specs.List.{AllZip, filter_map, list_all}
use Rattle.std.proofs.lemmas.Bool.{and_from, and_parts}
use Rattle.std.proofs.lemmas.List.{length-map}
use Rattle.std.proofs.lemmas.List.Elements.{All-cons, All-head, All-nil, All-tail}
use Rattle.row_core.specs.Conforms.{Conforms, is_leaf_value, is_value}
use Rattle.row_core.specs.Rows.{Row, Value}
use Rattle.row_core.specs.Unsupported.{unsupported}
use Rattle.schema_tree.specs.Limits.{is_sound}
use Rattle.schema_tree.specs.Tree.{Tree}
use Rattle.shred.specs.Columns.{AreColumnsOf, Cell, Column, column_of}
use Rattle.shred.specs.Fits.{FitsShape}
use Rattle.shred.specs.Shape.{Shape}
use Rattle.shred.specs.Ways.{Step, ways}
use Rattle.shred.proofs.Callers.{cells_length, cells_of, columns_found, fronts, matrix}
use Rattle.parquet_pages.specs.Pages.{Suits}
use Rattle.page_cells.specs.Levels.{may_stand}
use Rattle.page_cells.specs.Texts.{is_proper}
use Rattle.page_cells.specs.Types.{primitive_of}
use Rattle.parquet_schema.specs.FileTree.{FileNode}
use Rattle.parquet_schema.specs.Fitting.{fitted}
use Rattle.parquet_schema.specs.Leaves.{LeafIn, leaves_in}
use Rattle.parquet_file.specs.File.{has_texts, leaf_of}
use Rattle.parquet_file.proofs.CellsSuit.{and_swap, is_held, row_suits, suit_cells, suits_cell}
use Rattle.parquet_file.proofs.FittedShapes.{leaves_for_ways, supported}

-- ---- a column's cells

-- each cell suits the leaf
abbrev column_suits : LeafIn → List Cell → Bool
column_suits l cs = list_all (suits_cell [] l) cs

-- one column for each leaf
abbrev columns_suit : List LeafIn → List (List Cell) → Bool
columns_suit [] [] = true
columns_suit [] (cs ∷ css) = false
columns_suit (l ∷ ls) [] = false
columns_suit (l ∷ ls) (cs ∷ css) = column_suits l cs && columns_suit ls css

abbrev IsOf : LeafIn → Value → Type 0
IsOf l v = is_leaf_value (primitive_of l.leaf_type) v ≡ true

abbrev IsProper : Value → Type 0
IsProper v = is_proper v ≡ true

abbrev MayStand : LeafIn → ℕ → Type 0
MayStand l level = may_stand l.nullable level ≡ true

no_cell : (l : LeafIn) → Suits (leaf_of l) (column_of [])
no_cell l = record { of_type = All-nil (IsOf l); proper = All-nil IsProper; nulls = All-nil (MayStand l) }

-- a cell
abbrev cell_at : ℕ → Option Value → Cell
cell_at level o = record { level = level; value = o }

cell_more : (l : LeafIn) (level : ℕ) (o : Option Value) (cs : List Cell) → suits_cell [] l (cell_at level o) ≡ true
    → Suits (leaf_of l) (column_of cs)
    → Suits (leaf_of l) (column_of (cell_at level o ∷ cs))
cell_more l level None cs one others =
    let k = and_parts (may_stand l.nullable level) true one in
    record {
      of_type = others.of_type;
      proper = others.proper;
      nulls = All-cons (MayStand l) level (map (λ c. c.level) cs) k.0 others.nulls;
    }
cell_more l level (Some v) cs one others =
    let k = and_parts (may_stand l.nullable level) (is_held l.leaf_type (Some v)) one in
    let h = and_parts (is_leaf_value (primitive_of l.leaf_type) v) (is_proper v) k.1 in
    let values = filter_map (λ c. c.value) cs in
    record {
      of_type = All-cons (IsOf l) v values h.0 others.of_type;
      proper = All-cons IsProper v values h.1 others.proper;
      nulls = All-cons (MayStand l) level (map (λ c. c.level) cs) k.0 others.nulls;
    }

column_found : (l : LeafIn) (cs : List Cell) → column_suits l cs ≡ true → Suits (leaf_of l) (column_of cs)
column_found l [] e = no_cell l
column_found l (c ∷ cs) e =
    let k = and_parts (suits_cell [] l c) (column_suits l cs) e in
    cell_more l c.level c.value cs k.0 (column_found l cs k.1)

record CellMore (l : LeafIn) (level : ℕ) (o : Option Value) (cs : List Cell) : Type 0 where
  one : suits_cell [] l (cell_at level o) ≡ true
  others : Suits (leaf_of l) (column_of cs)

cell_less : (l : LeafIn) (level : ℕ) (o : Option Value) (cs : List Cell)
    → Suits (leaf_of l) (column_of (cell_at level o ∷ cs)) → CellMore l level o cs
cell_less l level None cs s =
    let levels = map (λ c. c.level) cs in
    record {
      one = and_from (may_stand l.nullable level) true (All-head (MayStand l) level levels s.nulls) refl;
      others = record { of_type = s.of_type; proper = s.proper; nulls = All-tail (MayStand l) level levels s.nulls };
    }
cell_less l level (Some v) cs s =
    let levels = map (λ c. c.level) cs in
    let values = filter_map (λ c. c.value) cs in
    record {
      one = and_from (may_stand l.nullable level) (is_held l.leaf_type (Some v))
          (All-head (MayStand l) level levels s.nulls)
          (and_from _ _ (All-head (IsOf l) v values s.of_type) (All-head IsProper v values s.proper));
      others = record {
        of_type = All-tail (IsOf l) v values s.of_type;
        proper = All-tail IsProper v values s.proper;
        nulls = All-tail (MayStand l) level levels s.nulls;
      };
    }

column_again : (l : LeafIn) (cs : List Cell) → Suits (leaf_of l) (column_of cs) → column_suits l cs ≡ true
column_again l [] s = refl
column_again l (c ∷ cs) s = let k = cell_less l c.level c.value cs s in and_from _ _ k.one (column_again l cs k.others)

-- the columns suit the leaves, one each
abbrev pub AllSuit : List LeafIn → List Column → Type 0
AllSuit ls cs = AllZip (λ l c. Suits (leaf_of l) c) ls cs

columns_found_of : (ls : List LeafIn) (css : List (List Cell)) → columns_suit ls css ≡ true
    → AllSuit ls (map column_of css)
columns_found_of [] [] e = tt
columns_found_of [] (cs ∷ css) e = absurd cc
columns_found_of (l ∷ ls) [] e = absurd cc
columns_found_of (l ∷ ls) (cs ∷ css) e =
    let k = and_parts (column_suits l cs) (columns_suit ls css) e in
    (column_found l cs k.0, columns_found_of ls css k.1)

columns_again : (ls : List LeafIn) (css : List (List Cell)) → AllSuit ls (map column_of css)
    → columns_suit ls css ≡ true
columns_again [] [] s = refl
columns_again [] (cs ∷ css) s = absurd s
columns_again (l ∷ ls) [] s = absurd s
columns_again (l ∷ ls) (cs ∷ css) s = and_from _ _ (column_again l cs s.0) (columns_again ls css s.1)

-- ---- row by row

fronts_suit : (ls : List LeafIn) (cs : List Cell) (css : List (List Cell)) → length ls ≡ length cs
    → length ls ≡ length css → columns_suit ls (fronts cs css) ≡ suit_cells [] ls cs && columns_suit ls css
fronts_suit [] [] [] many all = refl
fronts_suit [] (c ∷ cs) css many all = absurd (omega (arith, many))
fronts_suit [] [] (ds ∷ css) many all = absurd (omega (arith, all))
fronts_suit (l ∷ ls) [] css many all = absurd (omega (arith, many))
fronts_suit (l ∷ ls) (c ∷ cs) [] many all = absurd (omega (arith, all))
fronts_suit (l ∷ ls) (c ∷ cs) (ds ∷ css) many all =
    ap (λ b. column_suits l (c ∷ ds) && b) (fronts_suit ls cs css (omega (arith, many)) (omega (arith, all)))
    ∙ and_swap (suits_cell [] l c) (column_suits l ds) (suit_cells [] ls cs) (columns_suit ls css)

nothing_suits : (ls : List LeafIn) (ws : List (List Step)) → length ls ≡ length ws
    → columns_suit ls (map (λ way. []) ws) ≡ true
nothing_suits [] [] many = refl
nothing_suits [] (w ∷ ws) many = absurd (omega (arith, many))
nothing_suits (l ∷ ls) [] many = absurd (omega (arith, many))
nothing_suits (l ∷ ls) (w ∷ ws) many = nothing_suits ls ws (omega (arith, many))

fronts_length : (cs : List Cell) (css : List (List Cell)) → length cs ≡ length css
    → length (fronts cs css) ≡ length css
fronts_length [] [] same = refl
fronts_length [] (ds ∷ css) same = absurd (omega (arith, same))
fronts_length (c ∷ cs) [] same = absurd (omega (arith, same))
fronts_length (c ∷ cs) (ds ∷ css) same = ap suc (fronts_length cs css (omega (arith, same)))

matrix_length : (s : Shape) (rows : List Row) → All (FitsShape s) rows → length (matrix s rows) ≡ length (ways s)
matrix_length s [] fit = length-map (ways s) (λ way. [])
matrix_length s (r ∷ rows) fit =
    let rest = matrix_length s rows (All-tail (FitsShape s) r rows fit) in
    let one = cells_length s 0 r (All-head (FitsShape s) r rows fit) in
    fronts_length (cells_of s 0 r) (matrix s rows) (one ∙ sym rest) ∙ rest

-- a row of the table, whose texts are UTF-8
abbrev is_row : Tree → Row → Bool
is_row t r = is_value t r && has_texts r

rows_suit : (t : Tree) (node : FileNode) (s : Shape) (rows : List Row) → is_sound t ≡ true → fitted t node ≡ Some s
    → All (FitsShape s) rows → columns_suit (leaves_in t s) (matrix s rows) ≡ list_all (is_row t) rows
rows_suit t node s [] sound e fit = nothing_suits (leaves_in t s) (ways s) (leaves_for_ways t node s e)
rows_suit t node s (r ∷ rows) sound e fit =
    let first = All-head (FitsShape s) r rows fit in
    let others = All-tail (FitsShape s) r rows fit in
    let many = leaves_for_ways t node s e in
    let cells = many ∙ sym (cells_length s 0 r first) in
    let columns = many ∙ sym (matrix_length s rows others) in
    fronts_suit (leaves_in t s) (cells_of s 0 r) (matrix s rows) cells columns
    ∙ (ap (λ b. b && columns_suit (leaves_in t s) (matrix s rows)) (row_suits t node s r sound e first)
    ∙ ap (λ b. is_row t r && b) (rows_suit t node s rows sound e others))

-- ---- columns of rows

abbrev pub HasTexts : Row → Type 0
HasTexts row = has_texts row ≡ true

-- the rows of a table
pub record AreRows (t : Tree) (rows : List Row) : Type 0 where
  pub conform : All (Conforms t) rows
  pub texts : All HasTexts rows

rows_found : (t : Tree) (rows : List Row) → unsupported t ≡ None → list_all (is_row t) rows ≡ true → AreRows t rows
rows_found t [] none e = record { conform = All-nil (Conforms t); texts = All-nil HasTexts }
rows_found t (r ∷ rows) none e =
    let k = and_parts (is_row t r) (list_all (is_row t) rows) e in
    let one = and_parts (is_value t r) (has_texts r) k.0 in
    let others = rows_found t rows none k.1 in
    record {
      conform = All-cons (Conforms t) r rows (record { supported = none; fits = one.0 }) others.conform;
      texts = All-cons HasTexts r rows one.1 others.texts;
    }

rows_again : (t : Tree) (rows : List Row) → AreRows t rows → list_all (is_row t) rows ≡ true
rows_again t [] h = refl
rows_again t (r ∷ rows) h =
    and_from _ _ (and_from _ _ (All-head (Conforms t) r rows h.conform).fits (All-head HasTexts r rows h.texts))
    (rows_again t rows (record {
      conform = All-tail (Conforms t) r rows h.conform;
      texts = All-tail HasTexts r rows h.texts;
    }))

same_columns : (s : Shape) (rows : List Row) (given : List Column) → AreColumnsOf s rows given
    → map column_of (matrix s rows) ≡ given
same_columns s rows given are =
    let both : Some (map column_of (matrix s rows)) ≡ Some given = sym (columns_found s rows are.fit) ∙ are.are in
    cc

-- Rows whose columns suit the leaves are rows of the table.
pub rows_by_columns : (t : Tree) (node : FileNode) (s : Shape) (rows : List Row) (given : List Column)
    → is_sound t ≡ true → fitted t node ≡ Some s → AreColumnsOf s rows given → AllSuit (leaves_in t s) given
    → AreRows t rows
rows_by_columns t node s rows given sound e are suit =
    let suits = subst (AllSuit (leaves_in t s)) (sym (same_columns s rows given are)) suit in
    rows_found t rows (supported t node s e)
    (sym (rows_suit t node s rows sound e are.fit) ∙ columns_again (leaves_in t s) (matrix s rows) suits)

-- The columns of rows of the table suit the leaves.
pub columns_by_rows : (t : Tree) (node : FileNode) (s : Shape) (rows : List Row) (given : List Column)
    → is_sound t ≡ true → fitted t node ≡ Some s → AreColumnsOf s rows given → AreRows t rows
    → AllSuit (leaves_in t s) given
columns_by_rows t node s rows given sound e are h =
    subst (AllSuit (leaves_in t s)) (same_columns s rows given are)
    (columns_found_of (leaves_in t s) (matrix s rows) (rows_suit t node s rows sound e are.fit ∙ rows_again t rows h))

-- ---- how long columns are

abbrev IsLong : ℕ → Column → Type 0
IsLong n c = length c.levels ≡ n

nothing_long : (ws : List (List Step)) → All (IsLong 0) (map column_of (map (λ way. []) ws))
nothing_long [] = All-nil (IsLong 0)
nothing_long (w ∷ ws) = All-cons (IsLong 0) (column_of []) (map column_of (map (λ way. []) ws)) refl (nothing_long ws)

fronts_long : (n : ℕ) (cs : List Cell) (css : List (List Cell)) → All (IsLong n) (map column_of css)
    → All (IsLong (suc n)) (map column_of (fronts cs css))
fronts_long n [] css long = All-nil (IsLong (suc n))
fronts_long n (c ∷ cs) [] long = All-nil (IsLong (suc n))
fronts_long n (c ∷ cs) (ds ∷ css) long =
    All-cons (IsLong (suc n)) (column_of (c ∷ ds)) (map column_of (fronts cs css))
    (ap suc (All-head (IsLong n) (column_of ds) (map column_of css) long))
    (fronts_long n cs css (All-tail (IsLong n) (column_of ds) (map column_of css) long))

matrix_long : (s : Shape) (rows : List Row) → All (IsLong (length rows)) (map column_of (matrix s rows))
matrix_long s [] = nothing_long (ways s)
matrix_long s (r ∷ rows) = fronts_long (length rows) (cells_of s 0 r) (matrix s rows) (matrix_long s rows)

-- Each column of rows has a level for each row.
pub columns_long : (s : Shape) (rows : List Row) (given : List Column) → AreColumnsOf s rows given
    → All (λ c. length c.levels ≡ length rows) given
columns_long s rows given are =
    subst (All (IsLong (length rows))) (same_columns s rows given are) (matrix_long s rows)
