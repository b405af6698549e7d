-- The cells of a row that fits make this row.
use Rattle.std.proofs.Common.{◌≡◌, ℕ, ◌+◌, ◌<◌, List, [], ◌∷◌, ◌++◌, Bool, true, false, if◌then◌else◌, Ok, refl, ap, ◌∙◌, append_assoc, arith}
use Rattle.row_core.specs.Rows.{Value, Values, null, structure, no_values, value, values_of}
use Rattle.shred.specs.Shape.{Shape, leaf, struct, Fields, no_fields, field, HasFields, HaveFields}
use Rattle.shred.specs.Fits.{FitsField, FitsShape, FitFields}
use Rattle.shred.specs.Ways.{Step, under, ways, ways_from, level_inside}
use Rattle.shred.specs.Columns.{Cell, absent_cell, is_null}
use Rattle.shred.proofs.Callers.{cells_of, cells_of_fields, absent_cells, fits_inside, fits_null, null_is}
use Rattle.row_assembly.specs.Assembly.{is_absent, begins_absent, passed, passed_fields, field_made, made, made_fields}
use Rattle.row_assembly.proofs.Rests.{level_same, level_above}
use Rattle.row_assembly.proofs.MadeSound.{absent_split, field_cells}

abbrev list_of : Values → List Value
list_of no_values = []
list_of (value v vs) = v ∷ list_of vs

values_again : (vs : Values) → values_of (list_of vs) ≡ vs
values_again no_values = refl
values_again (value v vs) = ap (value v) (values_again vs)

pub has_have : (fs : Fields) → HasFields (struct fs) → HaveFields fs
has_have no_fields has = absurd has
has_have (field name optional s fs) has = has

pub absent_there : (level : ℕ) → is_absent level (absent_cell level) ≡ true
absent_there level = rw (level_same level) refl

-- ---- nulls are passed

mutual
  pub passed_complete : (s : Shape) (level : ℕ) (left : List Cell) → passed s level (absent_cells level (ways s) ++ left) ≡ Ok left
  passed_complete leaf level left = rw (absent_there level) refl
  passed_complete (struct fs) level left = passed_fields_complete fs 0 level left

  passed_fields_complete : (fs : Fields) (place level : ℕ) (left : List Cell) → passed_fields fs level (absent_cells level (ways_from place fs) ++ left) ≡ Ok left
  passed_fields_complete no_fields place level left = refl
  passed_fields_complete (field name optional s fs) place level left =
      let others = absent_cells level (ways_from (place + 1) fs) ++ left in
      let first = passed_complete s level others in
      let rest = passed_fields_complete fs (place + 1) level left in
      ap (λ cs. passed_fields (field name optional s fs) level cs) (absent_split level (record { place = place; optional = optional }) (ways s) (ways_from (place + 1) fs) left) ∙ rw first rest

-- ---- the first leaf tells whether a value is null

mutual
  ways_some : (s : Shape) → HasFields s → (w : List Step) × (ws : List (List Step)) × (ways s ≡ w ∷ ws)
  ways_some leaf has = ([], [], refl)
  ways_some (struct fs) has = fields_some fs 0 has

  fields_some : (fs : Fields) (place : ℕ) → HasFields (struct fs) → (w : List Step) × (ws : List (List Step)) × (ways_from place fs ≡ w ∷ ws)
  fields_some no_fields place has = absurd has
  fields_some (field name optional s fs) place has =
      let some = ways_some s has.0 in
      let step : Step = record { place = place; optional = optional } in
      (step ∷ some.0, under (step ∷ []) some.1 ++ ways_from (place + 1) fs, ap (λ ws. under (step ∷ []) ws ++ ways_from (place + 1) fs) some.2)

pub has_way : (s : Shape) → HasFields s → (w : List Step) × (ws : List (List Step)) × (ways s ≡ w ∷ ws)
has_way s has = ways_some s has

pub begins_null : (s : Shape) (m level : ℕ) (left : List Cell) → HasFields s → begins_absent level (absent_cells m (ways s) ++ left) ≡ is_absent level (absent_cell m)
begins_null s m level left has = ap (λ ws. begins_absent level (absent_cells m ws ++ left)) (ways_some s has).2

deeper : (optional : Bool) (m level : ℕ) → level < m → level < level_inside optional m
deeper true m level h = omega arith
deeper false m level h = h

absent_above : (m level : ℕ) → level < m → is_absent level (absent_cell m) ≡ false
absent_above m level h = rw (level_above m level h) refl

field_deep : (n optional : Bool) (s : Shape) (m level : ℕ) (v : Value) (left : List Cell) → is_null v ≡ n → HasFields s → FitsField optional (FitsShape s) v → level < m
    → ((k : ℕ) → level < k → FitsShape s v → begins_absent level (cells_of s k v ++ left) ≡ false) → begins_absent level (field_cells optional s m v ++ left) ≡ false
field_deep true optional s m level v left is has fit h inner =
    ap (λ n. begins_absent level ((if n then absent_cells m (ways s) else cells_of s (level_inside optional m) v) ++ left)) is ∙ (begins_null s m level left has ∙ absent_above m level h)
field_deep false optional s m level v left is has fit h inner =
    ap (λ n. begins_absent level ((if n then absent_cells m (ways s) else cells_of s (level_inside optional m) v) ++ left)) is ∙ inner (level_inside optional m) (deeper optional m level h) (fits_inside optional (FitsShape s) v is fit)

mutual
  pub begins_deep : (s : Shape) (m level : ℕ) (v : Value) (left : List Cell) → HasFields s → FitsShape s v → level < m → begins_absent level (cells_of s m v ++ left) ≡ false
  begins_deep leaf m level v left has fit h = rw (level_above m level h) refl
  begins_deep (struct fs) m level (structure vs) left has fit h = fields_deep fs m level vs left has fit h
  begins_deep (struct fs) m level _ left has fit h = absurd fit

  fields_deep : (fs : Fields) (m level : ℕ) (vs : Values) (left : List Cell) → HasFields (struct fs) → FitFields fs vs → level < m → begins_absent level (cells_of_fields fs m vs ++ left) ≡ false
  fields_deep no_fields m level vs left has fit h = absurd has
  fields_deep (field name optional s fs) m level no_values left has fit h = absurd fit
  fields_deep (field name optional s fs) m level (value v vs) left has fit h =
      let mine = field_cells optional s m v in
      let theirs = cells_of_fields fs m vs in
      ap (begins_absent level) (append_assoc mine theirs left) ∙ field_deep (is_null v) optional s m level v (theirs ++ left) refl has.0 fit.0 h (λ k above inside. begins_deep s k level v (theirs ++ left) has.0 inside above)

-- ---- the row is made

null_made : (s : Shape) (level : ℕ) (left : List Cell) → HasFields s → field_made true (passed s) (made s) level (absent_cells level (ways s) ++ left) ≡ Ok (null, left)
null_made s level left has =
    let begins : begins_absent level (absent_cells level (ways s) ++ left) ≡ true = begins_null s level level left has ∙ absent_there level in
    rw (begins, passed_complete s level left) refl

there_made : (optional : Bool) (s : Shape) (level : ℕ) (v : Value) (left : List Cell) → HasFields s → FitsShape s v → ((k : ℕ) → FitsShape s v → made s k (cells_of s k v ++ left) ≡ Ok (v, left))
    → field_made optional (passed s) (made s) level (cells_of s (level_inside optional level) v ++ left) ≡ Ok (v, left)
there_made true s level v left has fit inner =
    let above : level < level + 1 = omega arith in
    let begins : begins_absent level (cells_of s (level + 1) v ++ left) ≡ false = begins_deep s (level + 1) level v left has fit above in
    rw begins (inner (level + 1) fit)
there_made false s level v left has fit inner = inner level fit

field_complete : (n optional : Bool) (s : Shape) (level : ℕ) (v : Value) (left : List Cell) → is_null v ≡ n → HasFields s → FitsField optional (FitsShape s) v → ((k : ℕ) → FitsShape s v → made s k (cells_of s k v ++ left) ≡ Ok (v, left))
    → field_made optional (passed s) (made s) level (field_cells optional s level v ++ left) ≡ Ok (v, left)
field_complete true optional s level v left is has fit inner =
    let through : optional ≡ true = fits_null optional (FitsShape s) v is fit in
    ap (λ n. field_made optional (passed s) (made s) level ((if n then absent_cells level (ways s) else cells_of s (level_inside optional level) v) ++ left)) is ∙ (ap (λ b. field_made b (passed s) (made s) level (absent_cells level (ways s) ++ left)) through ∙ (null_made s level left has ∙ ap (λ w. Ok (w, left)) (null_is v is)))
field_complete false optional s level v left is has fit inner =
    ap (λ n. field_made optional (passed s) (made s) level ((if n then absent_cells level (ways s) else cells_of s (level_inside optional level) v) ++ left)) is ∙ there_made optional s level v left has (fits_inside optional (FitsShape s) v is fit) inner

mutual
  pub made_complete : (s : Shape) (level : ℕ) (v : Value) (left : List Cell) → HasFields s → FitsShape s v → made s level (cells_of s level v ++ left) ≡ Ok (v, left)
  made_complete leaf level v left has fit = rw (level_same level, fit) refl
  made_complete (struct fs) level (structure vs) left has fit =
      let given = fields_complete fs level vs left (has_have fs has) fit in
      rw given (ap (λ ws. Ok (structure ws, left)) (values_again vs))
  made_complete (struct fs) level _ left has fit = absurd fit

  fields_complete : (fs : Fields) (level : ℕ) (vs : Values) (left : List Cell) → HaveFields fs → FitFields fs vs → made_fields fs level (cells_of_fields fs level vs ++ left) ≡ Ok (list_of vs, left)
  fields_complete no_fields level no_values left have fit = refl
  fields_complete no_fields level (value v vs) left have fit = absurd fit
  fields_complete (field name optional s fs) level no_values left have fit = absurd fit
  fields_complete (field name optional s fs) level (value v vs) left have fit =
      let mine = field_cells optional s level v in
      let theirs = cells_of_fields fs level vs in
      let first = field_complete (is_null v) optional s level v (theirs ++ left) refl have.0 fit.0 (λ k inside. made_complete s k v (theirs ++ left) have.0 inside) in
      let others = fields_complete fs level vs left have.1 fit.1 in
      ap (made_fields (field name optional s fs) level) (append_assoc mine theirs left) ∙ rw (first, others) refl
