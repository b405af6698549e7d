-- Columns that are put together cell by cell.
use Rattle.std.proofs.Common.{◌≡◌, ℕ, ◌+◌, ◌<◌, ◌≤◌, length, get_or, drop, List, [], ◌∷◌, ◌++◌, map, Option, Some, None, option_map, option_to_list, refl, sym, ap, ◌∙◌, append_assoc}
use Rattle.std.specs.List.{cons_option}
use Rattle.std.proofs.lemmas.List.{drop_more, drop_all, append-nil}
use Rattle.row_core.specs.Rows.{Row}
use Rattle.row_core.specs.Rows as rows
use Rattle.row_core.specs.Views.{value_view, row_views}
use Rattle.row_core.specs.declared.value.Value.{Value}
use Rattle.shred.specs.Ways as specs
use Rattle.shred.specs.Columns.{Cell, Column, cell, column, column_of, all_some}

-- a column behind these levels and values
abbrev pub behind : List ℕ → List rows.Value → Option Column → Option Column
behind levels values rest = option_map (λ c. record { levels = levels ++ c.levels; values = values ++ c.values }) rest

option_front : {A : Type 0} (o : Option A) (xs : List A) → cons_option o xs ≡ option_to_list o ++ xs
option_front None xs = refl
option_front (Some x) xs = refl

cell_front : (c : Cell) (rest : Option (List Cell)) → option_map column_of (option_map (λ cs. c ∷ cs) rest) ≡ behind (c.level ∷ []) (option_to_list c.value) (option_map column_of rest)
cell_front c None = refl
cell_front c (Some cs) = ap (λ (vs : List rows.Value). Some (record { levels = c.level ∷ (column_of cs).levels; values = vs })) (option_front c.value (column_of cs).values)

column_more : (way : List specs.Step) (r : Row) (rs : List Row) (c : Cell) → cell way r ≡ Some c → column way (r ∷ rs) ≡ behind (c.level ∷ []) (option_to_list c.value) (column way rs)
column_more way r rs c h = rw h (cell_front c (all_some (map (cell way) rs)))

column_none : (way : List specs.Step) (r : Row) (rs : List Row) → cell way r ≡ None → column way (r ∷ rs) ≡ None
column_none way r rs h = rw h refl

behind_behind : (ls : List ℕ) (vs : List rows.Value) (ms : List ℕ) (ws : List rows.Value) (rest : Option Column) → behind ls vs (behind ms ws rest) ≡ behind (ls ++ ms) (vs ++ ws) rest
behind_behind ls vs ms ws None = refl
behind_behind ls vs ms ws (Some c) =
    let levels : ls ++ (ms ++ c.levels) ≡ ls ++ ms ++ c.levels = sym (append_assoc ls ms c.levels) in
    let values : vs ++ (ws ++ c.values) ≡ vs ++ ws ++ c.values = sym (append_assoc vs ws c.values) in
    ap (λ (d : Column). Some d) (λ i. record { levels = levels i; values = values i })

-- one more row has a cell
pub row_put : (way : List specs.Step) (rs : List Value) (i : ℕ) (r : Value) (ls : List ℕ) (vs : List rows.Value) (c : Cell) (total : Option Column) → i < length rs → r ≡ get_or rs i r → cell way (value_view r) ≡ Some c
    → behind ls vs (column way (row_views (drop i rs))) ≡ total → behind (ls ++ c.level ∷ []) (vs ++ option_to_list c.value) (column way (row_views (drop (i + 1) rs))) ≡ total
row_put way rs i r ls vs c total h at has so_far =
    let here : drop i rs ≡ r ∷ drop (i + 1) rs = drop_more rs i r h ∙ ap (λ y. y ∷ drop (i + 1) rs) (sym at) in
    let one : behind ls vs (column way (row_views (drop i rs))) ≡ behind (ls ++ c.level ∷ []) (vs ++ option_to_list c.value) (column way (row_views (drop (i + 1) rs))) =
    ap (λ xs. behind ls vs (column way (row_views xs))) here ∙ (ap (behind ls vs) (column_more way (value_view r) (row_views (drop (i + 1) rs)) c has) ∙ behind_behind ls vs (c.level ∷ []) (option_to_list c.value) (column way (row_views (drop (i + 1) rs)))) in
    sym one ∙ so_far

-- a row without a cell
pub row_missing : (way : List specs.Step) (rs : List Value) (i : ℕ) (r : Value) (ls : List ℕ) (vs : List rows.Value) (total : Option Column) → i < length rs → r ≡ get_or rs i r → cell way (value_view r) ≡ None
    → behind ls vs (column way (row_views (drop i rs))) ≡ total → None ≡ total
row_missing way rs i r ls vs total h at has so_far =
    let here : drop i rs ≡ r ∷ drop (i + 1) rs = drop_more rs i r h ∙ ap (λ y. y ∷ drop (i + 1) rs) (sym at) in
    let one : behind ls vs (column way (row_views (drop i rs))) ≡ None = ap (λ xs. behind ls vs (column way (row_views xs))) here ∙ ap (behind ls vs) (column_none way (value_view r) (row_views (drop (i + 1) rs)) has) in
    sym one ∙ so_far

-- all rows have a cell
pub rows_put : (way : List specs.Step) (rs : List Value) (i : ℕ) (ls : List ℕ) (vs : List rows.Value) (total : Option Column) → length rs ≤ i → behind ls vs (column way (row_views (drop i rs))) ≡ total → Some (record { levels = ls; values = vs }) ≡ total
rows_put way rs i ls vs total h so_far =
    let end : behind ls vs (column way (row_views (drop i rs))) ≡ behind ls vs (column way []) = ap (λ xs. behind ls vs (column way (row_views xs))) (drop_all i rs h) in
    let levels : ls ++ [] ≡ ls = append-nil ls in
    let values : vs ++ [] ≡ vs = append-nil vs in
    let same : behind ls vs (column way []) ≡ Some (record { levels = ls; values = vs }) = ap (λ (d : Column). Some d) (λ j. record { levels = levels j; values = values j }) in
    sym (end ∙ same) ∙ so_far
