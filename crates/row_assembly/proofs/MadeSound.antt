-- A row that is made of cells fits, and these are its cells.
use Rattle.std.proofs.Common.{◌≡◌, ℕ, ◌+◌, List, [], ◌∷◌, ◌++◌, Bool, true, false, if◌then◌else◌, None, Ok, Err, refl, sym, ap, ◌∙◌, subst, append_assoc}
use Rattle.std.proofs.lemmas.List.{map-append}
use Rattle.outcomes.specs.Results.{◌>>=◌, or_refusal, refused_as}
use Rattle.row_core.specs.Rows.{Value, null, structure, values_of}
use Rattle.shred.specs.Shape.{Shape, leaf, struct, Fields, no_fields, field}
use Rattle.shred.specs.Fits.{FitsField, FitsShape, FitFields}
use Rattle.shred.specs.Ways.{Step, under, ways, ways_from, level_inside}
use Rattle.shred.specs.Columns.{Cell, absent_cell, present_cell, is_null}
use Rattle.shred.proofs.Callers.{cells_of, cells_of_fields, absent_cells, fits_field, not_null}
use Rattle.row_assembly.specs.Faults.{level_mismatch, inside}
use Rattle.row_assembly.specs.Assembly.{is_absent, value_in, begins_absent, passed, passed_fields, field_made, made, made_fields}
use Rattle.row_assembly.proofs.Rests.{bind_ok, told_ok, ok_same, or_ok, absent_is, value_is}

absent_under : (level : ℕ) (s : Step) (ws : List (List Step)) → absent_cells level (under (s ∷ []) ws) ≡ absent_cells level ws
absent_under level s [] = refl
absent_under level s (w ∷ ws) = ap (λ cs. absent_cell level ∷ cs) (absent_under level s ws)

-- the cells of nulls, those of the first field in front
pub absent_both : (level : ℕ) (s : Step) (ws others : List (List Step)) → absent_cells level (under (s ∷ []) ws ++ others) ≡ absent_cells level ws ++ absent_cells level others
absent_both level s ws others = map-append (λ way. absent_cell level) (under (s ∷ []) ws) others ∙ ap (λ cs. cs ++ absent_cells level others) (absent_under level s ws)

pub absent_split : (level : ℕ) (s : Step) (ws others : List (List Step)) (left : List Cell) → absent_cells level (under (s ∷ []) ws ++ others) ++ left ≡ absent_cells level ws ++ (absent_cells level others ++ left)
absent_split level s ws others left = ap (λ cs. cs ++ left) (absent_both level s ws others) ∙ append_assoc (absent_cells level ws) (absent_cells level others) left

passed_leaf : (n : Bool) (level : ℕ) (c : Cell) (cells left : List Cell) → is_absent level c ≡ n → passed leaf level (c ∷ cells) ≡ Ok left → (c ∷ cells) ≡ absent_cell level ∷ left
passed_leaf true level c cells left is h =
    let done : passed leaf level (c ∷ cells) ≡ Ok cells = rw is refl in
    let same : cells ≡ left = ok_same cells left (sym done ∙ h) in
    ap (λ x. x ∷ cells) (absent_is level c is) ∙ ap (λ cs. absent_cell level ∷ cs) same
passed_leaf false level c cells left is h =
    let done : passed leaf level (c ∷ cells) ≡ Err (level_mismatch None) = rw is refl in
    let none = sym done ∙ h in absurd cc

mutual
  pub passed_sound : (s : Shape) (level : ℕ) (cells left : List Cell) → passed s level cells ≡ Ok left → cells ≡ absent_cells level (ways s) ++ left
  passed_sound leaf level [] left h = absurd cc
  passed_sound leaf level (c ∷ cells) left h = passed_leaf (is_absent level c) level c cells left refl h
  passed_sound (struct fs) level cells left h = passed_fields_sound fs 0 level cells left h

  passed_fields_sound : (fs : Fields) (place level : ℕ) (cells left : List Cell) → passed_fields fs level cells ≡ Ok left → cells ≡ absent_cells level (ways_from place fs) ++ left
  passed_fields_sound no_fields place level cells left h = ok_same cells left h
  passed_fields_sound (field name optional s fs) place level cells left h =
      let b = bind_ok (refused_as (inside name) (passed s level cells)) (λ l. passed_fields fs level l) left h in
      let first = passed_sound s level cells b.0 (told_ok (inside name) (passed s level cells) b.0 b.1) in
      let others = passed_fields_sound fs (place + 1) level b.0 left b.2 in
      first ∙ (ap (λ cs. absent_cells level (ways s) ++ cs) others ∙ sym (absent_split level (record { place = place; optional = optional }) (ways s) (ways_from (place + 1) fs) left))

-- what a field has in front of the cells that are left
abbrev pub field_cells : Bool → Shape → ℕ → Value → List Cell
field_cells optional s level v = if is_null v then absent_cells level (ways s) else cells_of s (level_inside optional level) v

abbrev Sound : Shape → Type 0
Sound s = (level : ℕ) (cells : List Cell) (v : Value) (left : List Cell) → made s level cells ≡ Ok (v, left) → FitsShape s v × (cells ≡ cells_of s level v ++ left)

there_sound : (optional : Bool) (s : Shape) (level : ℕ) (cells : List Cell) (v : Value) (left : List Cell) → FitsShape s v × (cells ≡ cells_of s (level_inside optional level) v ++ left) → FitsField optional (FitsShape s) v × (cells ≡ field_cells optional s level v ++ left)
there_sound optional s level cells v left h = (fits_field optional s v h.0, h.1 ∙ ap (λ n. (if n then absent_cells level (ways s) else cells_of s (level_inside optional level) v) ++ left) (sym (not_null s v h.0)))

optional_sound : (n : Bool) (s : Shape) (level : ℕ) (cells : List Cell) (v : Value) (left : List Cell) → Sound s → begins_absent level cells ≡ n → field_made true (passed s) (made s) level cells ≡ Ok (v, left) → FitsField true (FitsShape s) v × (cells ≡ field_cells true s level v ++ left)
optional_sound true s level cells v left inner is h =
    let go : field_made true (passed s) (made s) level cells ≡ (passed s level cells >>= λ l. Ok (null, l)) = rw is refl in
    let b = bind_ok (passed s level cells) (λ l. Ok (null, l)) (v, left) (sym go ∙ h) in
    let same = ok_same (null, b.0) (v, left) b.2 in
    let null_same : null ≡ v = ap (λ p. p.0) same in
    let left_same : b.0 ≡ left = ap (λ p. p.1) same in
    let there : cells ≡ absent_cells level (ways s) ++ left = passed_sound s level cells b.0 b.1 ∙ ap (λ l. absent_cells level (ways s) ++ l) left_same in
    (subst (λ w. FitsField true (FitsShape s) w) null_same refl, there ∙ ap (λ w. field_cells true s level w ++ left) null_same)
optional_sound false s level cells v left inner is h =
    let go : field_made true (passed s) (made s) level cells ≡ made s (level + 1) cells = rw is refl in
    there_sound true s level cells v left (inner (level + 1) cells v left (sym go ∙ h))

pub field_sound : (optional : Bool) (s : Shape) (level : ℕ) (cells : List Cell) (v : Value) (left : List Cell) → Sound s → field_made optional (passed s) (made s) level cells ≡ Ok (v, left) → FitsField optional (FitsShape s) v × (cells ≡ field_cells optional s level v ++ left)
field_sound true s level cells v left inner h = optional_sound (begins_absent level cells) s level cells v left inner refl h
field_sound false s level cells v left inner h = there_sound false s level cells v left (inner level cells v left h)

mutual
  pub made_sound : (s : Shape) (level : ℕ) (cells : List Cell) (v : Value) (left : List Cell) → made s level cells ≡ Ok (v, left) → FitsShape s v × (cells ≡ cells_of s level v ++ left)
  made_sound leaf level [] v left h = absurd cc
  made_sound leaf level (c ∷ cells) v left h =
      let b = bind_ok (or_refusal (value_in level c) (level_mismatch None)) (λ w. Ok (w, cells)) (v, left) h in
      let same = ok_same (b.0, cells) (v, left) b.2 in
      let value_same : b.0 ≡ v = ap (λ p. p.0) same in
      let left_same : cells ≡ left = ap (λ p. p.1) same in
      let is = value_is level c b.0 (or_ok (value_in level c) (level_mismatch None) b.0 b.1) in
      (subst (λ w. FitsShape leaf w) value_same is.1, ap (λ x. x ∷ cells) (is.0 ∙ ap (present_cell level) value_same) ∙ ap (λ cs. present_cell level v ∷ cs) left_same)
  made_sound (struct fs) level cells v left h =
      let b = bind_ok (made_fields fs level cells) (λ given. Ok (structure (values_of given.0), given.1)) (v, left) h in
      let same = ok_same (structure (values_of b.0.0), b.0.1) (v, left) b.2 in
      let value_same : structure (values_of b.0.0) ≡ v = ap (λ p. p.0) same in
      let left_same : b.0.1 ≡ left = ap (λ p. p.1) same in
      let inner = fields_sound fs level cells b.0.0 b.0.1 b.1 in
      (subst (λ w. FitsShape (struct fs) w) value_same inner.0, inner.1 ∙ (ap (λ w. cells_of (struct fs) level w ++ b.0.1) value_same ∙ ap (λ l. cells_of (struct fs) level v ++ l) left_same))

  fields_sound : (fs : Fields) (level : ℕ) (cells : List Cell) (vs : List Value) (left : List Cell) → made_fields fs level cells ≡ Ok (vs, left) → FitFields fs (values_of vs) × (cells ≡ cells_of_fields fs level (values_of vs) ++ left)
  fields_sound no_fields level cells vs left h =
      let same = ok_same ([], cells) (vs, left) h in
      let none : [] ≡ vs = ap (λ p. p.0) same in
      let left_same : cells ≡ left = ap (λ p. p.1) same in
      (subst (λ ws. FitFields no_fields (values_of ws)) none tt, left_same)
  fields_sound (field name optional s fs) level cells vs left h =
      let b = bind_ok (refused_as (inside name) (field_made optional (passed s) (made s) level cells)) (λ first. made_fields fs level first.1 >>= λ others. Ok (first.0 ∷ others.0, others.1)) (vs, left) h in
      let d = bind_ok (made_fields fs level b.0.1) (λ others. Ok (b.0.0 ∷ others.0, others.1)) (vs, left) b.2 in
      let same = ok_same (b.0.0 ∷ d.0.0, d.0.1) (vs, left) d.2 in
      let values_same : b.0.0 ∷ d.0.0 ≡ vs = ap (λ p. p.0) same in
      let left_same : d.0.1 ≡ left = ap (λ p. p.1) same in
      let one = field_sound optional s level cells b.0.0 b.0.1 (λ n cs w l e. made_sound s n cs w l e) (told_ok (inside name) (field_made optional (passed s) (made s) level cells) b.0 b.1) in
      let others = fields_sound fs level b.0.1 d.0.0 d.0.1 d.1 in
      let mine = field_cells optional s level b.0.0 in
      let theirs = cells_of_fields fs level (values_of d.0.0) in
      let all : cells ≡ (mine ++ theirs) ++ d.0.1 = one.1 ∙ (ap (λ cs. mine ++ cs) others.1 ∙ sym (append_assoc mine theirs d.0.1)) in
      (subst (λ ws. FitFields (field name optional s fs) (values_of ws)) values_same (one.0, others.0), all ∙ (ap (λ l. (mine ++ theirs) ++ l) left_same ∙ ap (λ ws. cells_of_fields (field name optional s fs) level (values_of ws) ++ left) values_same))
