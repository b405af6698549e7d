-- Columns as lists of cells, and back.
use Rattle.std.proofs.Common.{◌≡◌, ◌==◌, ℕ, suc, ◌+◌, length, List, [], ◌∷◌, map, count_by, Bool, true, false, is_some, Option, Some, None, Ok, refl, sym, ap, ◌∙◌, subst, arith, cond}
use Rattle.std.specs.List.{filter_map, cons_option}
use Rattle.std.proofs.lemmas.Bool.{and_parts, and_from}
use Rattle.std.proofs.lemmas.List.{length-map, nil_from_length}
use Rattle.std.proofs.lemmas.List.Sums.{sum_by-cons}
use Rattle.std.proofs.lemmas.Option.{none-some}
use Rattle.outcomes.specs.Results.{◌>>=◌, or_refusal}
use Rattle.row_core.specs.Rows.{Value}
use Rattle.shred.specs.Columns.{Cell, Column, column_of, absent_cell, present_cell}
use Rattle.row_assembly.specs.Faults.{uneven_columns}
use Rattle.row_assembly.specs.Assembly.{is_even, cells_in, cells_of_column, cells_of_columns}
use Rattle.row_assembly.specs.Levels.{AreLong}
use Rattle.row_assembly.proofs.Rests.{bind_ok, ok_same, or_ok, level_same, level_is}

abbrev pub levels_of : List Cell → List ℕ
levels_of cells = map (λ c. c.level) cells

abbrev pub found_in : List Cell → List Value
found_in cells = filter_map (λ c. c.value) cells

abbrev pub tops_in : ℕ → List ℕ → ℕ
tops_in top ls = count_by (λ level. level == top) ls

-- ---- a column is that of its cells

levels_on : (n : Bool) (top l : ℕ) (ls : List ℕ) (v : Value) (vs : List Value) → (l == top) ≡ n → levels_of (cells_in top ls vs) ≡ ls → levels_of (cells_in top ls (v ∷ vs)) ≡ ls → levels_of (cells_in top (l ∷ ls) (v ∷ vs)) ≡ l ∷ ls
levels_on true top l ls v vs is one other = rw is (ap (λ ms. l ∷ ms) one)
levels_on false top l ls v vs is one other = rw is (ap (λ ms. l ∷ ms) other)

pub levels_again : (top : ℕ) (ls : List ℕ) (vs : List Value) → levels_of (cells_in top ls vs) ≡ ls
levels_again top [] vs = refl
levels_again top (l ∷ ls) [] = ap (λ ms. l ∷ ms) (levels_again top ls [])
levels_again top (l ∷ ls) (v ∷ vs) = levels_on (l == top) top l ls v vs refl (levels_again top ls vs) (levels_again top ls (v ∷ vs))

cells_long : (top : ℕ) (ls : List ℕ) (vs : List Value) → length (cells_in top ls vs) ≡ length ls
cells_long top ls vs = sym (length-map (cells_in top ls vs) (λ c. c.level)) ∙ ap length (levels_again top ls vs)

none_found : (top : ℕ) (ls : List ℕ) → found_in (cells_in top ls []) ≡ []
none_found top [] = refl
none_found top (l ∷ ls) = none_found top ls

values_on : (n : Bool) (top l : ℕ) (ls : List ℕ) (v : Value) (vs : List Value) → (l == top) ≡ n → tops_in top (l ∷ ls) ≡ length (v ∷ vs) → (tops_in top ls ≡ length vs → found_in (cells_in top ls vs) ≡ vs) → (tops_in top ls ≡ length (v ∷ vs) → found_in (cells_in top ls (v ∷ vs)) ≡ v ∷ vs)
    → found_in (cells_in top (l ∷ ls) (v ∷ vs)) ≡ v ∷ vs
values_on true top l ls v vs is count one other =
    let counted = sym (sum_by-cons (λ level. cond (level == top) 1 0) l ls ∙ ap (λ n. cond n 1 0 + tops_in top ls) is) ∙ count in
    let fewer : tops_in top ls ≡ length vs = omega (arith, counted) in
    rw is (ap (λ ws. v ∷ ws) (one fewer))
values_on false top l ls v vs is count one other =
    let counted = sym (sum_by-cons (λ level. cond (level == top) 1 0) l ls ∙ ap (λ n. cond n 1 0 + tops_in top ls) is) ∙ count in
    let same : tops_in top ls ≡ length (v ∷ vs) = omega (arith, counted) in
    rw is (other same)

values_again : (top : ℕ) (ls : List ℕ) (vs : List Value) → tops_in top ls ≡ length vs → found_in (cells_in top ls vs) ≡ vs
values_again top [] vs count = sym (nil_from_length vs (sym count))
values_again top (l ∷ ls) [] count = none_found top ls
values_again top (l ∷ ls) (v ∷ vs) count = values_on (l == top) top l ls v vs refl count (λ h. values_again top ls vs h) (λ h. values_again top ls (v ∷ vs) h)

column_again : (rows top : ℕ) (c : Column) → is_even rows top c ≡ true → (column_of (cells_in top c.levels c.values) ≡ c) × (length (cells_in top c.levels c.values) ≡ rows)
column_again rows top c even =
    let parts = and_parts (length c.levels == rows) (tops_in top c.levels == length c.values) even in
    let levels = levels_again top c.levels c.values in
    let values = values_again top c.levels c.values (level_is (tops_in top c.levels) (length c.values) parts.1) in
    (λ i. record { levels = levels i; values = values i }, cells_long top c.levels c.values ∙ level_is (length c.levels) rows parts.0)

even_from : (n : Bool) (rows top : ℕ) (c : Column) (cells : List Cell) → is_even rows top c ≡ n → cells_of_column rows top c ≡ Some cells → (c ≡ column_of cells) × (length cells ≡ rows)
even_from true rows top c cells is h =
    let go : cells_of_column rows top c ≡ Some (cells_in top c.levels c.values) = rw is refl in
    let both = sym go ∙ h in
    let same : cells_in top c.levels c.values ≡ cells = cc in
    let again = column_again rows top c is in
    (sym again.0 ∙ ap column_of same, sym (ap length same) ∙ again.1)
even_from false rows top c cells is h =
    let go : cells_of_column rows top c ≡ None = rw is refl in
    absurd (none-some cells (sym go ∙ h))

abbrev Opened : ℕ → List ℕ → List Column → List (List Cell) → Type 0
Opened rows tops cs css = (cs ≡ map column_of css) × (length css ≡ length tops) × AreLong rows css

pub columns_sound : (rows : ℕ) (tops : List ℕ) (cs : List Column) (css : List (List Cell)) → cells_of_columns rows tops cs ≡ Ok css → (cs ≡ map column_of css) × (length css ≡ length tops) × AreLong rows css
columns_sound rows [] [] css h = subst (λ xs. Opened rows [] [] xs) (ok_same [] css h) (refl, refl, tt)
columns_sound rows [] (c ∷ cs) css h = absurd cc
columns_sound rows (top ∷ tops) [] css h = absurd cc
columns_sound rows (top ∷ tops) (c ∷ cs) css h =
    let b = bind_ok (or_refusal (cells_of_column rows top c) uneven_columns) (λ cells. cells_of_columns rows tops cs >>= λ others. Ok (cells ∷ others)) css h in
    let d = bind_ok (cells_of_columns rows tops cs) (λ others. Ok (b.0 ∷ others)) css b.2 in
    let one = even_from (is_even rows top c) rows top c b.0 refl (or_ok (cells_of_column rows top c) uneven_columns b.0 b.1) in
    let rest = columns_sound rows tops cs d.0 d.1 in
    let all : (c ∷ cs) ≡ map column_of (b.0 ∷ d.0) = ap (λ x. x ∷ cs) one.0 ∙ ap (λ xs. column_of b.0 ∷ xs) rest.0 in
    subst (λ xs. Opened rows (top ∷ tops) (c ∷ cs) xs) (ok_same (b.0 ∷ d.0) css d.2) (all, ap suc rest.1, (one.1, rest.2))

-- ---- cells of which just those at the highest level have a value

abbrev pub IsProper : ℕ → List Cell → Type 0
IsProper top [] = Unit {0}
IsProper top (c ∷ cells) = (is_some c.value ≡ (c.level == top)) × IsProper top cells

pub absent_on : (top l : ℕ) (ls : List ℕ) (vs : List Value) → false ≡ (l == top) → cells_in top (l ∷ ls) vs ≡ absent_cell l ∷ cells_in top ls vs
absent_on top l ls [] h = refl
absent_on top l ls (v ∷ vs) h = rw (← h) refl

cell_again : (top l : ℕ) (o : Option Value) (cells : List Cell) → is_some o ≡ (l == top) → cells_in top (levels_of cells) (found_in cells) ≡ cells → cells_in top (l ∷ levels_of cells) (cons_option o (found_in cells)) ≡ record { level = l; value = o } ∷ cells
cell_again top l None cells h rest = absent_on top l (levels_of cells) (found_in cells) h ∙ ap (λ cs. absent_cell l ∷ cs) rest
cell_again top l (Some v) cells h rest = rw (← h) (ap (λ cs. present_cell l v ∷ cs) rest)

cells_again : (top : ℕ) (cells : List Cell) → IsProper top cells → cells_in top (levels_of cells) (found_in cells) ≡ cells
cells_again top [] proper = refl
cells_again top (c ∷ cells) proper = cell_again top c.level c.value cells proper.0 (cells_again top cells proper.1)

count_on : (top l : ℕ) (o : Option Value) (cells : List Cell) → is_some o ≡ (l == top) → tops_in top (levels_of cells) ≡ length (found_in cells) → tops_in top (l ∷ levels_of cells) ≡ length (cons_option o (found_in cells))
count_on top l None cells h rest =
    let split : tops_in top (l ∷ levels_of cells) ≡ 0 + tops_in top (levels_of cells) = sum_by-cons (λ level. cond (level == top) 1 0) l (levels_of cells) ∙ ap (λ n. cond n 1 0 + tops_in top (levels_of cells)) (sym h) in
    omega (arith, split, rest)
count_on top l (Some v) cells h rest =
    let split : tops_in top (l ∷ levels_of cells) ≡ 1 + tops_in top (levels_of cells) = sum_by-cons (λ level. cond (level == top) 1 0) l (levels_of cells) ∙ ap (λ n. cond n 1 0 + tops_in top (levels_of cells)) (sym h) in
    omega (arith, split, rest)

count_again : (top : ℕ) (cells : List Cell) → IsProper top cells → tops_in top (levels_of cells) ≡ length (found_in cells)
count_again top [] proper = refl
count_again top (c ∷ cells) proper = count_on top c.level c.value cells proper.0 (count_again top cells proper.1)

same_level : (m n : ℕ) → m ≡ n → (m == n) ≡ true
same_level m n h = ap (λ k. m == k) (sym h) ∙ level_same m

column_opens : (rows top : ℕ) (cells : List Cell) → IsProper top cells → length cells ≡ rows → cells_of_column rows top (column_of cells) ≡ Some cells
column_opens rows top cells proper long =
    let levels = same_level (length (levels_of cells)) rows (length-map cells (λ c. c.level) ∙ long) in
    let values = same_level (tops_in top (levels_of cells)) (length (found_in cells)) (count_again top cells proper) in
    let even : is_even rows top (column_of cells) ≡ true = and_from (length (levels_of cells) == rows) (tops_in top (levels_of cells) == length (found_in cells)) levels values in
    rw even (ap (λ (cs : List Cell). Some cs) (cells_again top cells proper))

-- so many cells in each list, of the highest levels
abbrev pub AreProper : ℕ → List ℕ → List (List Cell) → Type 0
AreProper rows [] [] = Unit {0}
AreProper rows (top ∷ tops) (cells ∷ css) = (length cells ≡ rows) × IsProper top cells × AreProper rows tops css
AreProper rows _ _ = ⊥

pub columns_complete : (rows : ℕ) (tops : List ℕ) (css : List (List Cell)) → AreProper rows tops css → cells_of_columns rows tops (map column_of css) ≡ Ok css
columns_complete rows [] [] proper = refl
columns_complete rows [] (cells ∷ css) proper = absurd proper
columns_complete rows (top ∷ tops) [] proper = absurd proper
columns_complete rows (top ∷ tops) (cells ∷ css) proper =
    let one = column_opens rows top cells proper.1 proper.0 in
    let rest = columns_complete rows tops css proper.2 in
    rw (one, rest) refl
