-- Rows of columns that stand side by side: such rows can always be made.
use Rattle.std.proofs.Common.{◌≡◌, ℕ, zero, suc, ◌+◌, ◌≤◌, ◌==◌, cond, count_by, nat_eq, Bool, true, false, List, [], ◌∷◌, length, map, drop, All, Ok, refl, subst, arith}
use Rattle.std.specs.List.{AllZip}
use Rattle.std.proofs.lemmas.Bool.{eq-eqb}
use Rattle.std.proofs.lemmas.List.Elements.{All-head, All-tail}
use Rattle.std.proofs.lemmas.List.Sums.{sum_by-append}
use Rattle.row_core.specs.Rows.{Row, Value, null, structure, values_of}
use Rattle.shred.specs.Columns.{Cell, Column}
use Rattle.shred.specs.Fits.{is_plain}
use Rattle.shred.specs.Shape.{Shape, leaf, struct, Fields, no_fields, field}
use Rattle.shred.specs.Ways.{Step, highest, level_inside, ways, ways_from}
use Rattle.row_assembly.specs.Assembly.{assembled, cells_in, cells_of_columns, field_made, heads, made, made_fields, passed, row_count, rows_made, AreEven, IsWhole}
use Rattle.row_assembly.specs.Mismatch.{cells_of_ways}
use Rattle.parquet_file.specs.Internal.{are_leaves, is_flat, AreSoundColumns}

-- ---- cells that give a value

-- The cell of a leaf that gives a value, or a null, whatever cells stand behind it.
abbrev GivesValue : Bool → Cell → Type 0
GivesValue optional c = (v : Value) × ((rest : List Cell) → field_made optional (passed leaf) (made leaf) 0 (c ∷ rest) ≡ Ok (v, rest))

-- so many cells in front give values
abbrev GiveValues : Bool → ℕ → List Cell → Type 0
GiveValues optional zero cells = Unit {0}
GiveValues optional (suc n) [] = ⊥
GiveValues optional (suc n) (c ∷ cells) = GivesValue optional c × GiveValues optional n cells

-- how many levels are the highest of a leaf
abbrev tops : Bool → List ℕ → ℕ
tops optional levels = count_by (λ level. level == level_inside optional 0) levels

needed_there : (levels : List ℕ) → tops false (0 ∷ levels) ≡ 1 + tops false levels
needed_there levels = sum_by-append (λ level. cond (nat_eq level (level_inside false 0)) 1 0) (0 ∷ []) levels

optional_there : (levels : List ℕ) → tops true (1 ∷ levels) ≡ 1 + tops true levels
optional_there levels = sum_by-append (λ level. cond (nat_eq level (level_inside true 0)) 1 0) (1 ∷ []) levels

optional_null : (levels : List ℕ) → tops true (0 ∷ levels) ≡ tops true levels
optional_null levels = refl

sound_cells : (optional : Bool) (levels : List ℕ) (values : List Value)
    → All (λ level. level ≤ level_inside optional 0) levels
    → tops optional levels ≡ length values → All (λ v. is_plain v ≡ true) values
    → GiveValues optional (length levels) (cells_in (level_inside optional 0) levels values)
sound_cells optional [] values below each plain = tt
sound_cells false (zero ∷ levels) [] below each plain = absurd (omega (arith, each, needed_there levels))
sound_cells false (zero ∷ levels) (v ∷ values) below each plain =
    let others = sound_cells false levels values (All-tail (λ level. level ≤ 0) zero levels below)
    (omega (arith, each, needed_there levels)) (All-tail (λ v. is_plain v ≡ true) v values plain) in
    ((v, λ rest. rw (All-head (λ v. is_plain v ≡ true) v values plain) refl), others)
sound_cells false (suc level ∷ levels) values below each plain =
    absurd (omega (arith, All-head (λ level. level ≤ 0) (suc level) levels below))
sound_cells true (zero ∷ levels) [] below each plain =
    let others = sound_cells true levels [] (All-tail (λ level. level ≤ 1) zero levels below)
    (omega (arith, each, optional_null levels)) plain in
    ((null, λ rest. refl), others)
sound_cells true (zero ∷ levels) (v ∷ values) below each plain =
    let others = sound_cells true levels (v ∷ values) (All-tail (λ level. level ≤ 1) zero levels below)
    (omega (arith, each, optional_null levels)) plain in
    ((null, λ rest. refl), others)
sound_cells true (suc zero ∷ levels) [] below each plain = absurd (omega (arith, each, optional_there levels))
sound_cells true (suc zero ∷ levels) (v ∷ values) below each plain =
    let others = sound_cells true levels values (All-tail (λ level. level ≤ 1) 1 levels below)
    (omega (arith, each, optional_there levels)) (All-tail (λ v. is_plain v ≡ true) v values plain) in
    ((v, λ rest. rw (All-head (λ v. is_plain v ≡ true) v values plain) refl), others)
sound_cells true (suc (suc level) ∷ levels) values below each plain =
    absurd (omega (arith, All-head (λ level. level ≤ 1) (suc (suc level)) levels below))

-- ---- a row

abbrev GiveFields : Fields → List Cell → Type 0
GiveFields no_fields [] = Unit {0}
GiveFields (field name optional s fs) (c ∷ cells) = GivesValue optional c × GiveFields fs cells
GiveFields _ _ = ⊥

fields_given : (fs : Fields) (cells : List Cell) → are_leaves fs ≡ true → GiveFields fs cells
    → (vs : List Value) × (made_fields fs 0 cells ≡ Ok (vs, []))
fields_given no_fields [] flat give = ([], refl)
fields_given no_fields (c ∷ cells) flat give = absurd give
fields_given (field name optional s fs) [] flat give = absurd give
fields_given (field name optional (struct gs) fs) (c ∷ cells) flat give = absurd cc
fields_given (field name optional leaf fs) (c ∷ cells) flat give =
    let others = fields_given fs cells flat give.1 in
    (give.0.0 ∷ others.0, rw (give.0.1 cells, others.1) refl)

-- ---- rows

abbrev GiveColumns : Fields → ℕ → List (List Cell) → Type 0
GiveColumns no_fields n [] = Unit {0}
GiveColumns (field name optional s fs) n (cells ∷ css) = GiveValues optional n cells × GiveColumns fs n css
GiveColumns _ n _ = ⊥

first_row : (fs : Fields) (n : ℕ) (css : List (List Cell)) → GiveColumns fs (suc n) css
    → GiveFields fs (heads css) × GiveColumns fs n (map (drop 1) css)
first_row no_fields n [] give = (tt, tt)
first_row no_fields n (cells ∷ css) give = absurd give
first_row (field name optional s fs) n [] give = absurd give
first_row (field name optional s fs) n ([] ∷ css) give = absurd give.0
first_row (field name optional s fs) n ((c ∷ cells) ∷ css) give =
    let others = first_row fs n css give.1 in
    ((give.0.0, others.0), (give.0.1, others.1))

rows_given : (fs : Fields) (n : ℕ) (css : List (List Cell)) → are_leaves fs ≡ true → GiveColumns fs n css
    → (rows : List Row) × (rows_made (struct fs) n css ≡ Ok rows)
rows_given fs zero css flat give = ([], refl)
rows_given fs (suc n) css flat give =
    let first = first_row fs n css give in
    let row = fields_given fs (heads css) flat first.0 in
    let others = rows_given fs n (map (drop 1) css) flat first.1 in
    (structure (values_of row.0) ∷ others.0, rw (row.1, others.1) refl)

-- ---- columns

columns_given : (fs : Fields) (place n : ℕ) (cs : List Column) → are_leaves fs ≡ true
    → AllZip (IsWhole n) (ways_from place fs) cs → AreSoundColumns (map highest (ways_from place fs)) cs
    → GiveColumns fs n (cells_of_ways (ways_from place fs) cs)
columns_given no_fields place n [] flat whole sound = tt
columns_given no_fields place n (c ∷ cs) flat whole sound = absurd whole
columns_given (field name optional (struct gs) fs) place n cs flat whole sound = absurd cc
columns_given (field name optional leaf fs) place n [] flat whole sound = absurd whole
columns_given (field name optional leaf fs) place n (c ∷ cs) flat whole sound =
    let way : List Step = record { place = place; optional = optional } ∷ [] in
    let here = sound_cells optional c.levels c.values sound.0.below whole.0.values_each sound.0.plain in (
      subst (λ (m : ℕ). GiveValues optional m (cells_in (highest way) c.levels c.values)) whole.0.levels_each here,
      columns_given fs (place + 1) n cs flat whole.1 sound.1,
    )

cells_found : (rows : ℕ) (ws : List (List Step)) (cs : List Column) → AllZip (IsWhole rows) ws cs
    → cells_of_columns rows (map highest ws) cs ≡ Ok (cells_of_ways ws cs)
cells_found rows [] [] whole = refl
cells_found rows [] (c ∷ cs) whole = absurd whole
cells_found rows (w ∷ ws) [] whole = absurd whole
cells_found rows (w ∷ ws) (c ∷ cs) whole =
    let levels = eq-eqb (length c.levels) rows whole.0.levels_each in
    let values = eq-eqb (count_by (λ level. level == highest w) c.levels) (length c.values) whole.0.values_each in
    rw (levels, values, cells_found rows ws cs whole.1) refl

-- Rows are made of sound columns of as many rows each that stand side by side.
pub flat_rows : (shape : Shape) (cs : List Column) → is_flat shape ≡ true → AreEven shape cs
    → AreSoundColumns (map highest (ways shape)) cs → (rows : List Row) × (assembled shape cs ≡ Ok rows)
unfolding assembled
flat_rows leaf cs flat even sound = absurd cc
flat_rows (struct fs) cs flat even sound =
    let n = row_count cs in
    let rows = rows_given fs n (cells_of_ways (ways (struct fs)) cs) flat (columns_given fs 0 n cs flat even sound) in
    (rows.0, rw (cells_found n (ways (struct fs)) cs even, rows.1) refl)
