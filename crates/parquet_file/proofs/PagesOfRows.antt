-- The column of rows, cut into those of the first rows and of the others: the pages in which it is written.
use Rattle.std.proofs.Common.{◌≡◌, ◌==◌, ℕ, zero, suc, ◌<◌, ◌≤◌, eqb, cond, min, List, [], ◌∷◌, length, take, drop, map, Bool, true, false, Bor, Option, Some, None, is_some, option_map, refl, sym, ap, subst, ◌∙◌, arith}
use Rattle.std.specs.List.{AllByRecursion, cons_option, filter_map}
use Rattle.std.proofs.lemmas.List.{drop-map, drop_min, length-map, length-take, take-map, take_min}
use Rattle.std.proofs.lemmas.Option.{none-some}
use Rattle.row_core.specs.Rows.{Row, Value}
use Rattle.row_core.specs.Views.{row_views, value_view}
use Rattle.row_core.specs.declared.value.Value.{Value as CodeValue}
use Rattle.shred.specs.Columns.{Cell, Column, all_some, cell, column, column_of}
use Rattle.shred.specs.Views.{borrowed_column}
use Rattle.shred.specs.Ways.{Step, highest}
use Rattle.shred.specs.declared.columns.Column.{Column as CodeColumn}
use Rattle.row_assembly.proofs.Callers.{way_tells}
use Rattle.page_cells.specs.Levels.{present}
use Rattle.page_writing.specs.Writing.{first_page, other_pages}
use Rattle.page_writing.proofs.Callers.{some_left}
use Rattle.parquet_file.specs.Internal.{column_along, column_or_none}
use Rattle.parquet_file.proofs.ColumnsWhole.{present_more}
use Rattle.parquet_file.proofs.FittedShapes.{mapped_is, some_is}

-- ---- what is there of a list, cut

first_there : {A : Type 0} (n : ℕ) (xs : List (Option A)) (ys : List A) → all_some xs ≡ Some ys
    → all_some (take n xs) ≡ Some (take n ys)
first_there zero xs ys e = refl
first_there {A} (suc n) [] ys e =
    let is : [] ≡ ys = cc in
    subst (λ (zs : List A). all_some (take (suc n) []) ≡ Some (take (suc n) zs)) is refl
first_there (suc n) (None ∷ xs) ys e = absurd cc
first_there {A} (suc n) (Some x ∷ xs) ys e =
    let rest = mapped_is (λ (zs : List A). x ∷ zs) (all_some xs) ys e in
    subst (λ (zs : List A). all_some (Some x ∷ take n xs) ≡ Some (take (suc n) zs)) rest.2
    (ap (option_map (λ (zs : List A). x ∷ zs)) (first_there n xs rest.0 rest.1))

others_there : {A : Type 0} (n : ℕ) (xs : List (Option A)) (ys : List A) → all_some xs ≡ Some ys
    → all_some (drop n xs) ≡ Some (drop n ys)
others_there zero xs ys e = e
others_there {A} (suc n) [] ys e =
    let is : [] ≡ ys = cc in
    subst (λ (zs : List A). all_some (drop (suc n) []) ≡ Some (drop (suc n) zs)) is refl
others_there (suc n) (None ∷ xs) ys e = absurd cc
others_there {A} (suc n) (Some x ∷ xs) ys e =
    let rest = mapped_is (λ (zs : List A). x ∷ zs) (all_some xs) ys e in
    subst (λ (zs : List A). all_some (drop n xs) ≡ Some (drop (suc n) zs)) rest.2
    (others_there n xs rest.0 rest.1)

there_long : {A : Type 0} (xs : List (Option A)) (ys : List A) → all_some xs ≡ Some ys → length ys ≡ length xs
there_long {A} [] ys e = let is : [] ≡ ys = cc in subst (λ (zs : List A). length zs ≡ 0) is refl
there_long (None ∷ xs) ys e = absurd cc
there_long {A} (Some x ∷ xs) ys e =
    let rest = mapped_is (λ (zs : List A). x ∷ zs) (all_some xs) ys e in
    subst (λ (zs : List A). length zs ≡ suc (length xs)) rest.2 (ap suc (there_long xs rest.0 rest.1))

there_where : {A B : Type 0} (f : A → B) (o : Option A) → is_some (option_map f o) ≡ true → (x : A) × (o ≡ Some x)
there_where f None e = absurd cc
there_where f (Some x) e = (x, refl)

some_same : {A : Type 0} (x y : A) → Some x ≡ Some y → x ≡ y
some_same x y e = cc

-- ---- cells with a value just where their level is the highest

abbrev Tells : (top : ℕ) → Cell → Type 0
Tells top c = is_some c.value ≡ (c.level == top)

all_tell : (way : List Step) (rows : List Row) (cs : List Cell) → all_some (map (cell way) rows) ≡ Some cs
    → AllByRecursion (Tells (highest way)) cs
all_tell way [] cs e = let is : [] ≡ cs = cc in subst (AllByRecursion (Tells (highest way))) is tt
all_tell way (row ∷ rows) cs e =
    let others = all_some (map (cell way) rows) in
    let one = some_is (cell way row) (λ (c : Cell). option_map (λ (ds : List Cell). c ∷ ds) others) cs e in
    let rest = mapped_is (λ (ds : List Cell). one.0 ∷ ds) others cs one.2 in
    subst (AllByRecursion (Tells (highest way))) rest.2
    (way_tells way 0 row one.0 one.1, all_tell way rows rest.0 rest.1)

abbrev levels_in : List Cell → List ℕ
levels_in cs = map (λ (c : Cell). c.level) cs

abbrev values_in : List Cell → List Value
values_in cs = filter_map (λ (c : Cell). c.value) cs

-- one more level, with its value or without one
absent_more : (top level : ℕ) (levels : List ℕ) → false ≡ (level == top)
    → present top levels ≡ present top (level ∷ levels)
absent_more top level levels e =
    omega (arith, present_more top level levels, ap {B = ℕ} (λ b. cond b 1 0) e)

there_more : (top level : ℕ) (levels : List ℕ) → true ≡ (level == top)
    → suc (present top levels) ≡ present top (level ∷ levels)
there_more top level levels e =
    omega (arith, present_more top level levels, ap {B = ℕ} (λ b. cond b 1 0) e)

first_more : (top level : ℕ) (o : Option Value) (levels : List ℕ) (first all : List Value)
    → is_some o ≡ (level == top) → first ≡ take (present top levels) all
    → cons_option o first ≡ take (present top (level ∷ levels)) (cons_option o all)
first_more top level None levels first all tells is =
    is ∙ ap (λ n. take n all) (absent_more top level levels tells)
first_more top level (Some v) levels first all tells is =
    ap (λ (vs : List Value). v ∷ vs) is ∙ ap (λ n. take n (v ∷ all)) (there_more top level levels tells)

others_more : (top level : ℕ) (o : Option Value) (levels : List ℕ) (others all : List Value)
    → is_some o ≡ (level == top) → others ≡ drop (present top levels) all
    → others ≡ drop (present top (level ∷ levels)) (cons_option o all)
others_more top level None levels others all tells is =
    is ∙ ap (λ n. drop n all) (absent_more top level levels tells)
others_more top level (Some v) levels others all tells is =
    is ∙ ap (λ n. drop n (v ∷ all)) (there_more top level levels tells)

-- the first cells have as many values as highest levels
first_values : (top n : ℕ) (cs : List Cell) → AllByRecursion (Tells top) cs
    → values_in (take n cs) ≡ take (present top (levels_in (take n cs))) (values_in cs)
first_values top zero cs tell = refl
first_values top (suc n) [] tell = refl
first_values top (suc n) (c ∷ cs) tell =
    first_more top c.level c.value (levels_in (take n cs)) (values_in (take n cs)) (values_in cs) tell.0
    (first_values top n cs tell.1)

other_values : (top n : ℕ) (cs : List Cell) → AllByRecursion (Tells top) cs
    → values_in (drop n cs) ≡ drop (present top (levels_in (take n cs))) (values_in cs)
other_values top zero cs tell = refl
other_values top (suc n) [] tell = refl
other_values top (suc n) (c ∷ cs) tell =
    others_more top c.level c.value (levels_in (take n cs)) (values_in (drop n cs)) (values_in cs) tell.0
    (other_values top n cs tell.1)

-- ---- a column, cut

-- the first levels and their values, and the others
abbrev first_of : (n top : ℕ) → Column → Column
first_of n top c = record { levels = take n c.levels; values = take (present top (take n c.levels)) c.values }

abbrev others_of : (n top : ℕ) → Column → Column
others_of n top c = record { levels = drop n c.levels; values = drop (present top (take n c.levels)) c.values }

first_column : (top n : ℕ) (cs : List Cell) → AllByRecursion (Tells top) cs
    → column_of (take n cs) ≡ first_of n top (column_of cs)
first_column top n cs tell =
    let levels : levels_in (take n cs) ≡ take n (levels_in cs) = sym (take-map (λ (c : Cell). c.level) n cs) in
    let values : values_in (take n cs) ≡ take (present top (take n (levels_in cs))) (values_in cs) =
    first_values top n cs tell ∙ ap (λ (ls : List ℕ). take (present top ls) (values_in cs)) levels in
    λ i. record { levels = levels i; values = values i }

other_column : (top n : ℕ) (cs : List Cell) → AllByRecursion (Tells top) cs
    → column_of (drop n cs) ≡ others_of n top (column_of cs)
other_column top n cs tell =
    let front : levels_in (take n cs) ≡ take n (levels_in cs) = sym (take-map (λ (c : Cell). c.level) n cs) in
    let levels : levels_in (drop n cs) ≡ drop n (levels_in cs) = sym (drop-map (λ (c : Cell). c.level) n cs) in
    let values : values_in (drop n cs) ≡ drop (present top (take n (levels_in cs))) (values_in cs) =
    other_values top n cs tell ∙ ap (λ (ls : List ℕ). drop (present top ls) (values_in cs)) front in
    λ i. record { levels = levels i; values = values i }

-- ---- rows, cut

-- The columns of the first rows and of the others, and how long that of all is.
record IsCut (n : ℕ) (way : List Step) (rows : List Row) : Type 0 where
  first : column way (take n rows) ≡ Some (first_of n (highest way) (column_along way rows))
  others : column way (drop n rows) ≡ Some (others_of n (highest way) (column_along way rows))
  long : length (column_along way rows).levels ≡ length rows

rows_cut : (n : ℕ) (way : List Step) (rows : List Row) → is_some (column way rows) ≡ true → IsCut n way rows
rows_cut n way rows found =
    let top = highest way in
    let cells = there_where column_of (all_some (map (cell way) rows)) found in
    let tell = all_tell way rows cells.0 cells.1 in
    let along : column_of cells.0 ≡ column_along way rows =
    ap (λ o. column_or_none (option_map column_of o)) (sym cells.1) in
    let front : all_some (map (cell way) (take n rows)) ≡ Some (take n cells.0) =
    ap all_some (sym (take-map (cell way) n rows)) ∙ first_there n (map (cell way) rows) cells.0 cells.1 in
    let back : all_some (map (cell way) (drop n rows)) ≡ Some (drop n cells.0) =
    ap all_some (sym (drop-map (cell way) n rows)) ∙ others_there n (map (cell way) rows) cells.0 cells.1 in
    record {
      first = ap (option_map column_of) front
          ∙ ap (λ (c : Column). Some c) (first_column top n cells.0 tell ∙ ap (first_of n top) along);
      others = ap (option_map column_of) back
          ∙ ap (λ (c : Column). Some c) (other_column top n cells.0 tell ∙ ap (others_of n top) along);
      long = ap (λ (c : Column). length c.levels) (sym along)
          ∙ (length-map cells.0 (λ (c : Cell). c.level)
          ∙ (there_long (map (cell way) rows) cells.0 cells.1 ∙ length-map rows (cell way)));
    }

-- ---- pages, as the code cuts them

-- the column has a level for each row
pub column_long : (way : List Step) (rows : List CodeValue) → is_some (column way (row_views rows)) ≡ true
    → length (column_along way (row_views rows)).levels ≡ length rows
column_long way rows found = (rows_cut 0 way (row_views rows) found).long ∙ length-map rows value_view

-- Rows are left, and cut into those of a page and those behind it.
pub record IsPage (way : List Step) (top : ℕ) (rows page behind : List CodeValue) : Type 0 where
  pub some : 0 < length (column_along way (row_views rows)).levels
  pub first : column way (row_views page) ≡ Some (first_page top (column_along way (row_views rows)))
  pub others : column_along way (row_views behind) ≡ other_pages top (column_along way (row_views rows))
  pub found : is_some (column way (row_views behind)) ≡ true

-- the page's rows and those behind it
first_rows : (rows page : List CodeValue) (n : ℕ) → n ≡ min (length rows) 4096 → page ≡ take n rows
    → row_views page ≡ take 4096 (row_views rows)
first_rows rows page n many is =
    let turned : n ≡ min 4096 (length rows) = omega arith in
    ap row_views (is ∙ (ap (λ m. take m rows) turned ∙ take_min 4096 rows)) ∙ sym (take-map value_view 4096 rows)

other_rows : (rows behind : List CodeValue) (n : ℕ) → n ≡ min (length rows) 4096 → behind ≡ drop n rows
    → row_views behind ≡ drop 4096 (row_views rows)
other_rows rows behind n many is =
    let turned : n ≡ min 4096 (length rows) = omega arith in
    ap row_views (is ∙ (ap (λ m. drop m rows) turned ∙ drop_min 4096 rows)) ∙ sym (drop-map value_view 4096 rows)

pub page_cut : (way : List Step) (top : ℕ) (rows page behind : List CodeValue) (n : ℕ) (empty : Bool)
    → top ≡ highest way → is_some (column way (row_views rows)) ≡ true → empty ≡ eqb (length rows) 0 → empty ≡ false
    → n ≡ min (length rows) 4096 → page ≡ take n rows → behind ≡ drop n rows → IsPage way top rows page behind
page_cut way top rows page behind n empty level found tells not_empty many page_is behind_is =
    let all = column_along way (row_views rows) in
    let cut = rows_cut 4096 way (row_views rows) found in
    let back : column way (row_views behind) ≡ Some (other_pages top all) =
    ap (column way) (other_rows rows behind n many behind_is)
    ∙ (cut.others ∙ ap (λ m. Some (other_pages m all)) (sym level)) in
    record {
      some = omega (arith, column_long way rows found, some_left (length rows) empty tells not_empty);
      first = ap (column way) (first_rows rows page n many page_is)
          ∙ (cut.first ∙ ap (λ m. Some (first_page m all)) (sym level));
      others = ap column_or_none back;
      found = ap is_some back;
    }

-- what was found of the page's rows is its column
pub page_found : (way : List Step) (top : ℕ) (rows page behind : List CodeValue)
    (found : Option (CodeColumn (Bor CodeValue))) (c : CodeColumn (Bor CodeValue)) → found ≡ Some c
    → option_map borrowed_column found ≡ column way (row_views page) → IsPage way top rows page behind
    → borrowed_column c ≡ first_page top (column_along way (row_views rows))
page_found way top rows page behind found c is are p =
    some_same _ _ (sym (ap (option_map borrowed_column) is) ∙ (are ∙ p.first))

-- it is there
pub page_there : (way : List Step) (top : ℕ) (rows page behind : List CodeValue)
    (found : Option (CodeColumn (Bor CodeValue))) → found ≡ None
    → option_map borrowed_column found ≡ column way (row_views page) → IsPage way top rows page behind → ⊥
page_there way top rows page behind found is are p =
    none-some _ (sym (ap (option_map borrowed_column) is) ∙ (are ∙ p.first))

-- a page is short
pub page_short : (way : List Step) (top : ℕ) (rows : List CodeValue) (c : CodeColumn (Bor CodeValue))
    → borrowed_column c ≡ first_page top (column_along way (row_views rows)) → length c.levels.items ≤ 4096
page_short way top rows c is =
    let levels = (column_along way (row_views rows)).levels in
    omega (arith, ap (λ (d : Column). length d.levels) is, length-take 4096 levels)
