-- The cells of a row that fits, front the shape has them.
use Rattle.std.proofs.Common.{◌≡◌, ℕ, suc, ◌+◌, length, List, [], ◌∷◌, ◌++◌, map, Bool, true, false, if◌then◌else◌, Option, Some, None, option_map, refl, sym, ap, ◌∙◌, arith}
use Rattle.std.proofs.lemmas.Bool.{false≢true}
use Rattle.std.proofs.lemmas.List.{map-append, length-append}
use Rattle.outcomes.specs.Options.{◌>>=◌}
use Rattle.row_core.specs.Rows.{Value, Values, null, structure, no_values, value}
use Rattle.shred.specs.Shape.{Shape, leaf, struct, Fields, no_fields, field}
use Rattle.shred.specs.Fits.{FitsField, FitsShape, FitFields}
use Rattle.shred.specs.Ways.{Step, under, ways, ways_from, level_inside}
use Rattle.shred.specs.Columns.{Cell, absent_cell, present_cell, value_at, is_null, null_cell, cell_from, all_some}

abbrev pub values_in : Value → Values
values_in (structure vs) = vs
values_in _ = no_values

-- a cell of a null for each way
abbrev pub absent_cells : ℕ → List (List Step) → List Cell
absent_cells level ws = map (λ way. absent_cell level) ws

abbrev mutual
  pub cells_of : Shape → ℕ → Value → List Cell
  cells_of leaf level v = present_cell level v ∷ []
  cells_of (struct fs) level v = cells_of_fields fs level (values_in v)

  pub cells_of_fields : Fields → ℕ → Values → List Cell
  cells_of_fields no_fields level vs = []
  cells_of_fields (field name optional s fs) level no_values = []
  cells_of_fields (field name optional s fs) level (value v vs) = (if is_null v then absent_cells level (ways s) else cells_of s (level_inside optional level) v) ++ cells_of_fields fs level vs

-- ---- what fits

pub fits_inside : (b : Bool) (P : Value → Type 0) (v : Value) → is_null v ≡ false → FitsField b P v → P v
fits_inside b P null e fit = absurd (false≢true (sym e))
fits_inside b P _ e fit = fit

pub fits_null : (b : Bool) (P : Value → Type 0) (v : Value) → is_null v ≡ true → FitsField b P v → b ≡ true
fits_null b P null e fit = fit
fits_null b P _ e fit = absurd (false≢true e)

pub null_is : (v : Value) → is_null v ≡ true → null ≡ v
null_is null e = refl
null_is _ e = absurd (false≢true e)

-- what fits a shape is no null
pub not_null : (s : Shape) (v : Value) → FitsShape s v → is_null v ≡ false
not_null leaf null fit = absurd (false≢true fit)
not_null (struct fs) null fit = absurd fit
not_null _ _ fit = refl

pub fits_field : (b : Bool) (s : Shape) (v : Value) → FitsShape s v → FitsField b (FitsShape s) v
fits_field b leaf null fit = absurd (false≢true fit)
fits_field b (struct fs) null fit = absurd fit
fits_field b _ _ fit = fit

-- ---- the ways of a shape

append_one : {A : Type 0} (x : Option A) (front : Option (List A)) (back : Option (List A)) → (x >>= λ y. option_map (λ ys. y ∷ ys) (front >>= λ cs. option_map (λ ds. cs ++ ds) back)) ≡ ((x >>= λ y. option_map (λ ys. y ∷ ys) front) >>= λ cs. option_map (λ ds. cs ++ ds) back)
append_one None front back = refl
append_one (Some x) None back = refl
append_one (Some x) (Some front) None = refl
append_one (Some x) (Some front) (Some back) = refl

append_none : {A : Type 0} (back : Option (List A)) → back ≡ option_map (λ ds. [] ++ ds) back
append_none None = refl
append_none (Some back) = refl

all_some-append : {A : Type 0} (xs ys : List (Option A)) → all_some (xs ++ ys) ≡ (all_some xs >>= λ front. option_map (λ back. front ++ back) (all_some ys))
all_some-append [] ys = append_none (all_some ys)
all_some-append {A} (x ∷ xs) ys = ap (λ (o : Option (List A)). x >>= λ y. option_map (λ zs. y ∷ zs) o) (all_some-append xs ys) ∙ append_one x (all_some xs) (all_some ys)

both_found : {A : Type 0} (xs ys : List (Option A)) (front back : List A) → all_some xs ≡ Some front → all_some ys ≡ Some back → all_some (xs ++ ys) ≡ Some (front ++ back)
both_found xs ys front back h k = all_some-append xs ys ∙ rw (h, k) refl

-- a cell below one step onto this value
abbrev on_value : Bool → Bool → ℕ → Value → List Step → Option Cell
on_value nil optional level v way = if nil then null_cell optional level else cell_from way (level_inside optional level) v

one_step : (place level : ℕ) (optional : Bool) (all : Values) (v : Value) → value_at place all ≡ Some v → (ws : List (List Step)) → map (λ way. cell_from way level (structure all)) (under (record { place = place; optional = optional } ∷ []) ws) ≡ map (on_value (is_null v) optional level v) ws
one_step place level optional all v at [] = refl
one_step place level optional all v at (w ∷ ws) =
    let first : cell_from (record { place = place; optional = optional } ∷ w) level (structure all) ≡ on_value (is_null v) optional level v w = rw at refl in
    ap (λ x. x ∷ map (λ way. cell_from way level (structure all)) (under (record { place = place; optional = optional } ∷ []) ws)) first ∙ ap (λ xs. on_value (is_null v) optional level v w ∷ xs) (one_step place level optional all v at ws)

nulls_found : (level : ℕ) (ws : List (List Step)) → all_some (map (λ way. Some (absent_cell level)) ws) ≡ Some (absent_cells level ws)
nulls_found level [] = refl
nulls_found level (w ∷ ws) = ap (option_map (λ cs. absent_cell level ∷ cs)) (nulls_found level ws)

field_found : (n optional : Bool) (s : Shape) (level : ℕ) (v : Value) → is_null v ≡ n → FitsField optional (FitsShape s) v → (FitsShape s v → all_some (map (λ way. cell_from way (level_inside optional level) v) (ways s)) ≡ Some (cells_of s (level_inside optional level) v))
    → all_some (map (on_value (is_null v) optional level v) (ways s)) ≡ Some (if is_null v then absent_cells level (ways s) else cells_of s (level_inside optional level) v)
field_found true optional s level v is fit inner =
    let let_through : optional ≡ true = fits_null optional (FitsShape s) v is fit in
    ap (λ n. all_some (map (on_value n optional level v) (ways s))) is ∙ (ap (λ b. all_some (map (λ way. null_cell b level) (ways s))) let_through ∙ (nulls_found level (ways s) ∙ ap (λ n. Some (if n then absent_cells level (ways s) else cells_of s (level_inside optional level) v)) (sym is)))
field_found false optional s level v is fit inner =
    ap (λ n. all_some (map (on_value n optional level v) (ways s))) is ∙ (inner (fits_inside optional (FitsShape s) v is fit) ∙ ap (λ n. Some (if n then absent_cells level (ways s) else cells_of s (level_inside optional level) v)) (sym is))

-- each cell of a row that fits is there
mutual
  pub cells_found : (s : Shape) (level : ℕ) (v : Value) → FitsShape s v → all_some (map (λ way. cell_from way level v) (ways s)) ≡ Some (cells_of s level v)
  cells_found leaf level v fit = refl
  cells_found (struct fs) level (structure vs) fit = fields_found fs 0 level vs vs (λ k. ap (λ n. value_at n vs) (omega arith)) fit
  cells_found (struct fs) level _ fit = absurd fit

  fields_found : (fs : Fields) (place level : ℕ) (all vs : Values) → ((k : ℕ) → value_at (place + k) all ≡ value_at k vs) → FitFields fs vs → all_some (map (λ way. cell_from way level (structure all)) (ways_from place fs)) ≡ Some (cells_of_fields fs level vs)
  fields_found no_fields place level all no_values at fit = refl
  fields_found no_fields place level all (value v vs) at fit = absurd fit
  fields_found (field name optional s fs) place level all no_values at fit = absurd fit
  fields_found (field name optional s fs) place level all (value v vs) at fit =
      let on = λ (way : List Step). cell_from way level (structure all) in
      let step : Step = record { place = place; optional = optional } in
      let zero_on : place ≡ place + 0 = omega arith in
      let here : value_at place all ≡ Some v = ap (λ n. value_at n all) zero_on ∙ at 0 in
      let first : all_some (map on (under (step ∷ []) (ways s))) ≡ Some (if is_null v then absent_cells level (ways s) else cells_of s (level_inside optional level) v) =
      ap all_some (one_step place level optional all v here (ways s)) ∙ field_found (is_null v) optional s level v refl fit.0 (cells_found s (level_inside optional level) v) in
      let next : (k : ℕ) → value_at (place + 1 + k) all ≡ value_at k vs = λ k. (let e : place + 1 + k ≡ place + suc k = omega arith in ap (λ n. value_at n all) e ∙ at (suc k)) in
      let others = fields_found fs (place + 1) level all vs next fit.1 in
      ap all_some (map-append on (under (step ∷ []) (ways s)) (ways_from (place + 1) fs)) ∙ both_found (map on (under (step ∷ []) (ways s))) (map on (ways_from (place + 1) fs)) _ _ first others

-- ---- how many there are

pub under_length : (above : List Step) (ws : List (List Step)) → length (under above ws) ≡ length ws
under_length above [] = refl
under_length above (w ∷ ws) = ap suc (under_length above ws)

pub absent_length : (level : ℕ) (ws : List (List Step)) → length (absent_cells level ws) ≡ length ws
absent_length level [] = refl
absent_length level (w ∷ ws) = ap suc (absent_length level ws)

pub field_length : (n optional : Bool) (s : Shape) (level : ℕ) (v : Value) → is_null v ≡ n → FitsField optional (FitsShape s) v → (FitsShape s v → length (cells_of s (level_inside optional level) v) ≡ length (ways s))
    → length (if is_null v then absent_cells level (ways s) else cells_of s (level_inside optional level) v) ≡ length (ways s)
field_length true optional s level v is fit inner = rw is (absent_length level (ways s))
field_length false optional s level v is fit inner = rw is (inner (fits_inside optional (FitsShape s) v is fit))

mutual
  pub cells_length : (s : Shape) (level : ℕ) (v : Value) → FitsShape s v → length (cells_of s level v) ≡ length (ways s)
  cells_length leaf level v fit = refl
  cells_length (struct fs) level (structure vs) fit = fields_length fs 0 level vs fit
  cells_length (struct fs) level _ fit = absurd fit

  fields_length : (fs : Fields) (place level : ℕ) (vs : Values) → FitFields fs vs → length (cells_of_fields fs level vs) ≡ length (ways_from place fs)
  fields_length no_fields place level no_values fit = refl
  fields_length no_fields place level (value v vs) fit = absurd fit
  fields_length (field name optional s fs) place level no_values fit = absurd fit
  fields_length (field name optional s fs) place level (value v vs) fit =
      let step : Step = record { place = place; optional = optional } in
      let cells = if is_null v then absent_cells level (ways s) else cells_of s (level_inside optional level) v in
      let first : length cells ≡ length (under (step ∷ []) (ways s)) = field_length (is_null v) optional s level v refl fit.0 (cells_length s (level_inside optional level) v) ∙ sym (under_length (step ∷ []) (ways s)) in
      let others = fields_length fs (place + 1) level vs fit.1 in
      length-append cells (cells_of_fields fs level vs) ∙ (ap (λ n. n + length (cells_of_fields fs level vs)) first ∙ (ap (λ n. length (under (step ∷ []) (ways s)) + n) others ∙ sym (length-append (under (step ∷ []) (ways s)) (ways_from (place + 1) fs))))
