-- A row that isn't made fails at the first leaf up to which no value that fits has its cells.
use Rattle.std.proofs.Common.{◌≡◌, inl, inr, ℕ, suc, ◌+◌, ◌≤◌, length, List, [], ◌∷◌, map, take, Bool, true, false, if◌then◌else◌, Option, Some, None, Result, Ok, Err, refl, sym, ap, ◌∙◌, subst, arith}
use Rattle.std.proofs.lemmas.Bool.{false≢true}
use Rattle.std.proofs.lemmas.List.{length-append, length-map, append-nil}
use Rattle.std.proofs.lemmas.Option.{none-some}
use Rattle.outcomes.specs.Results.{◌>>=◌, refused_as}
use Rattle.row_core.specs.Rows.{Value, Values, null, truth, structure, no_values, value, values_of}
use Rattle.schema_tree.specs.Fault.{Path, path_inside}
use Rattle.shred.specs.Shape.{Shape, leaf, struct, Fields, no_fields, field, HasFields, HaveFields}
use Rattle.shred.specs.Fits.{is_plain, FitsField, FitsShape, FitFields}
use Rattle.shred.specs.Ways.{Step, under, ways, ways_from, level_inside}
use Rattle.shred.specs.Columns.{Cell, absent_cell, present_cell, is_null}
use Rattle.shred.proofs.Callers.{cells_of, cells_of_fields, absent_cells, absent_length, under_length, field_length, cells_length, fits_inside, fits_null, fits_field, not_null}
use Rattle.row_assembly.specs.Faults.{Fault, uneven_columns, level_mismatch, inside}
use Rattle.row_assembly.specs.Assembly.{is_absent, value_in, begins_absent, passed, passed_fields, field_made, made, made_fields}
use Rattle.row_assembly.specs.Mismatch.{leaf_paths, paths_of_fields}
use Rattle.row_assembly.proofs.FailsAt.{FailsAt, Both, both, paths_behind, fails_first, fails_other, fails_as}
use Rattle.row_assembly.proofs.Rests.{told_ok, level_same}
use Rattle.row_assembly.proofs.MadeSound.{absent_both, passed_sound, field_cells, field_sound, made_sound}
use Rattle.row_assembly.proofs.MadeComplete.{has_have, absent_there, begins_null, begins_deep}
use Rattle.row_assembly.proofs.Uneven.{ok_err, bind_err}

front_same : {A : Type 0} (x y : A) (xs ys : List A) → x ∷ xs ≡ y ∷ ys → x ≡ y
front_same x y xs ys h = cc

path_same : {A : Type 0} (p q : Path) → (let r : Result A Fault = Err (level_mismatch p) in r) ≡ Err (level_mismatch q) → p ≡ q
path_same p q h = cc

-- a fault told from outside a field is that of a leaf inside
told_mismatch : {A : Type 0} (name : List ℕ) (r : Result A Fault) (path : Path) → refused_as (inside name) r ≡ Err (level_mismatch path) → (q : Path) × (r ≡ Err (level_mismatch q)) × (path_inside name q ≡ path)
told_mismatch name (Ok x) path h = absurd cc
told_mismatch name (Err uneven_columns) path h = absurd cc
told_mismatch {A} name (Err (level_mismatch q)) path h = (q, refl, path_same {A = A} (path_inside name q) path h)

-- ---- how many leaves there are

paths_split : (name : List ℕ) (s : Shape) (others : List Path) → length (paths_behind name (leaf_paths s) others) ≡ length (leaf_paths s) + length others
paths_split name s others = length-append (map (path_inside name) (leaf_paths s)) others ∙ ap (λ n. n + length others) (length-map (leaf_paths s) (path_inside name))

mutual
  pub paths_long : (s : Shape) → length (leaf_paths s) ≡ length (ways s)
  paths_long leaf = refl
  paths_long (struct fs) = fields_long fs 0

  fields_long : (fs : Fields) (place : ℕ) → length (paths_of_fields fs) ≡ length (ways_from place fs)
  fields_long no_fields place = refl
  fields_long (field name optional s fs) place =
      let step : Step = record { place = place; optional = optional } in
      let first : length (leaf_paths s) ≡ length (under (step ∷ []) (ways s)) = paths_long s ∙ sym (under_length (step ∷ []) (ways s)) in
      let others = fields_long fs (place + 1) in
      paths_split name s (paths_of_fields fs) ∙ (ap (λ n. n + length (paths_of_fields fs)) first ∙ (ap (λ n. length (under (step ∷ []) (ways s)) + n) others ∙ sym (length-append (under (step ∷ []) (ways s)) (ways_from (place + 1) fs))))

-- ---- a value of each shape

abbrev mutual
  plain_value : Shape → Value
  plain_value leaf = truth true
  plain_value (struct fs) = structure (plain_values fs)

  plain_values : Fields → Values
  plain_values no_fields = no_values
  plain_values (field name optional s fs) = value (plain_value s) (plain_values fs)

mutual
  plain_fits : (s : Shape) → FitsShape s (plain_value s)
  plain_fits leaf = refl
  plain_fits (struct fs) = plain_fit fs

  plain_fit : (fs : Fields) → FitFields fs (plain_values fs)
  plain_fit no_fields = tt
  plain_fit (field name optional s fs) = (fits_field optional s (plain_value s) (plain_fits s), plain_fit fs)

-- ---- where a null stands

abbrev Always : Unit {0} → Type 0
Always _ = Unit {0}

abbrev nulls : ℕ → List (List Step) → Unit {0} → List Cell
nulls level ws _ = absent_cells level ws

leaf_passed : (n : Bool) (level : ℕ) (c : Cell) (cells : List Cell) (path : Path) → is_absent level c ≡ n → passed leaf level (c ∷ cells) ≡ Err (level_mismatch path) → FailsAt Always (nulls level (ways leaf)) (leaf_paths leaf) (c ∷ cells) path
leaf_passed true level c cells path is h =
    let done : passed leaf level (c ∷ cells) ≡ Ok cells = rw is refl in
    absurd (ok_err cells (level_mismatch path) (sym done ∙ h))
leaf_passed false level c cells path is h =
    let done : passed leaf level (c ∷ cells) ≡ Err (level_mismatch None) = rw is refl in
    let here : None ≡ path = path_same {A = List Cell} None path (sym done ∙ h) in
    record {
      place = 0;
      within = omega arith;
      told = ap (λ (p : Path). Some p) here;
      some_value = tt;
      some_fits = tt;
      some_agrees = refl;
      none_agrees = λ v fit agrees. (let same : absent_cell level ≡ c = front_same (absent_cell level) c [] (take 0 cells) agrees in false≢true (sym is ∙ (ap (is_absent level) (sym same) ∙ absent_there level)));
    }

mutual
  passed_fails : (s : Shape) (level : ℕ) (cells : List Cell) (path : Path) → length (leaf_paths s) ≤ length cells → passed s level cells ≡ Err (level_mismatch path) → FailsAt Always (nulls level (ways s)) (leaf_paths s) cells path
  passed_fails leaf level [] path long h = absurd (omega (arith, long))
  passed_fails leaf level (c ∷ cells) path long h = leaf_passed (is_absent level c) level c cells path refl h
  passed_fails (struct fs) level cells path long h = passed_fields_fails fs 0 level cells path long h

  passed_fields_fails : (fs : Fields) (place level : ℕ) (cells : List Cell) (path : Path) → length (paths_of_fields fs) ≤ length cells → passed_fields fs level cells ≡ Err (level_mismatch path) → FailsAt Always (nulls level (ways_from place fs)) (paths_of_fields fs) cells path
  passed_fields_fails no_fields place level cells path long h = absurd (ok_err cells (level_mismatch path) h)
  passed_fields_fails (field name optional s fs) place level cells path long h =
      let step : Step = record { place = place; optional = optional } in
      let mine = nulls level (ways s) in
      let theirs = nulls level (ways_from (place + 1) fs) in
      let all = nulls level (ways_from place (field name optional s fs)) in
      let split = absent_both level step (ways s) (ways_from (place + 1) fs) in
      let paths = leaf_paths s in
      let others = paths_of_fields fs in
      let counted = paths_split name s others in
      let each : (u : Unit {0}) → Unit {0} → length (mine u) ≡ length paths = λ u fit. absent_length level (ways s) ∙ sym (paths_long s) in
      let again : (p : Path) → FailsAt (Both Always Always) (both mine theirs) (paths_behind name paths others) cells p → FailsAt Always all (paths_of_fields (field name optional s fs)) cells p =
      λ p f. fails_as (Both Always Always) Always (both mine theirs) all (paths_behind name paths others) cells p (λ x. tt) (λ x fits. tt) (λ x fits. split) (λ u fit. ((tt, tt), (tt, tt), sym split)) f in
      elim (bind_err (refused_as (inside name) (passed s level cells)) (λ left. passed_fields fs level left) (level_mismatch path) h) [
        | inl first ↦ (let q = told_mismatch name (passed s level cells) path first in
            let inner = passed_fails s level cells q.0 (omega (arith, long, counted)) q.1 in
            again path (subst (λ p. FailsAt (Both Always Always) (both mine theirs) (paths_behind name paths others) cells p) q.2 (fails_first Always Always mine theirs name paths others cells q.0 each tt tt inner)))
        | inr later ↦ (let there = passed_sound s level cells later.0 (told_ok (inside name) (passed s level cells) later.0 later.1) in
            let total = ap length there ∙ length-append (mine tt) later.0 in
            let front = each tt tt in
            let inner = passed_fields_fails fs (place + 1) level later.0 path (omega (arith, long, counted, total, front)) later.2 in
            again path (fails_other Always Always mine theirs name paths others cells later.0 path each tt tt there inner))
      ]

-- ---- a field

begins_taken : (level k : ℕ) (cells : List Cell) → begins_absent level (take (suc k) cells) ≡ begins_absent level cells
begins_taken level k [] = refl
begins_taken level k (c ∷ cells) = refl

-- cells that agree at the first leaf begin with a null both or neither
begin_alike : (level k : ℕ) (cells others : List Cell) → take (suc k) cells ≡ take (suc k) others → begins_absent level cells ≡ begins_absent level others
begin_alike level k cells others agree = sym (begins_taken level k cells) ∙ (ap (begins_absent level) agree ∙ begins_taken level k others)

nulls_begin : (s : Shape) (level : ℕ) → HasFields s → begins_absent level (absent_cells level (ways s)) ≡ true
nulls_begin s level has = ap (begins_absent level) (sym (append-nil (absent_cells level (ways s)))) ∙ (begins_null s level level [] has ∙ absent_there level)

deep_begin : (s : Shape) (level : ℕ) (v : Value) → HasFields s → FitsShape s v → begins_absent level (cells_of s (level + 1) v) ≡ false
deep_begin s level v has fit = ap (begins_absent level) (sym (append-nil (cells_of s (level + 1) v))) ∙ begins_deep s (level + 1) level v [] has fit (omega arith)

-- no null has these cells
abbrev NoNull : Bool → Shape → ℕ → List Cell → Type 0
NoNull optional s level cells = (k : ℕ) → optional ≡ true → take (suc k) (absent_cells level (ways s)) ≡ take (suc k) cells → ⊥

there_none : (n optional : Bool) (s : Shape) (level k : ℕ) (cells : List Cell) (v : Value) → is_null v ≡ n → NoNull optional s level cells → ((w : Value) → FitsShape s w → take (suc k) (cells_of s (level_inside optional level) w) ≡ take (suc k) cells → ⊥)
    → FitsField optional (FitsShape s) v → take (suc k) (field_cells optional s level v) ≡ take (suc k) cells → ⊥
there_none true optional s level k cells v is no_null none fit agrees = no_null k (fits_null optional (FitsShape s) v is fit) (ap (λ n. take (suc k) (if n then absent_cells level (ways s) else cells_of s (level_inside optional level) v)) (sym is) ∙ agrees)
there_none false optional s level k cells v is no_null none fit agrees = none v (fits_inside optional (FitsShape s) v is fit) (ap (λ n. take (suc k) (if n then absent_cells level (ways s) else cells_of s (level_inside optional level) v)) (sym is) ∙ agrees)

there_fails : (optional : Bool) (s : Shape) (level : ℕ) (cells : List Cell) (path : Path) → NoNull optional s level cells → FailsAt (FitsShape s) (cells_of s (level_inside optional level)) (leaf_paths s) cells path → FailsAt (FitsField optional (FitsShape s)) (field_cells optional s level) (leaf_paths s) cells path
there_fails optional s level cells path no_null f =
    record {
      place = f.place;
      within = f.within;
      told = f.told;
      some_value = f.some_value;
      some_fits = fits_field optional s f.some_value f.some_fits;
      some_agrees = ap (λ n. take f.place (if n then absent_cells level (ways s) else cells_of s (level_inside optional level) f.some_value)) (not_null s f.some_value f.some_fits) ∙ f.some_agrees;
      none_agrees = λ v fit agrees. there_none (is_null v) optional s level f.place cells v refl no_null f.none_agrees fit agrees;
    }

null_none : (n : Bool) (s : Shape) (level k : ℕ) (cells : List Cell) (v : Value) → is_null v ≡ n → HasFields s → begins_absent level cells ≡ true → (take (suc k) (absent_cells level (ways s)) ≡ take (suc k) cells → ⊥)
    → FitsField true (FitsShape s) v → take (suc k) (field_cells true s level v) ≡ take (suc k) cells → ⊥
null_none true s level k cells v is has begins none fit agrees = none (ap (λ n. take (suc k) (if n then absent_cells level (ways s) else cells_of s (level + 1) v)) (sym is) ∙ agrees)
null_none false s level k cells v is has begins none fit agrees =
    let same : take (suc k) (cells_of s (level + 1) v) ≡ take (suc k) cells = ap (λ n. take (suc k) (if n then absent_cells level (ways s) else cells_of s (level + 1) v)) (sym is) ∙ agrees in
    false≢true (sym (deep_begin s level v has (fits_inside true (FitsShape s) v is fit)) ∙ (begin_alike level k (cells_of s (level + 1) v) cells same ∙ begins))

null_fails : (s : Shape) (level : ℕ) (cells : List Cell) (path : Path) → HasFields s → begins_absent level cells ≡ true → FailsAt Always (nulls level (ways s)) (leaf_paths s) cells path → FailsAt (FitsField true (FitsShape s)) (field_cells true s level) (leaf_paths s) cells path
null_fails s level cells path has begins f =
    record {
      place = f.place;
      within = f.within;
      told = f.told;
      some_value = null;
      some_fits = refl;
      some_agrees = f.some_agrees;
      none_agrees = λ v fit agrees. null_none (is_null v) s level f.place cells v refl has begins (f.none_agrees tt tt) fit agrees;
    }

abbrev Inner : Shape → List Cell → Path → Type 0
Inner s cells path = (level : ℕ) → made s level cells ≡ Err (level_mismatch path) → FailsAt (FitsShape s) (cells_of s level) (leaf_paths s) cells path

optional_fails : (n : Bool) (s : Shape) (level : ℕ) (cells : List Cell) (path : Path) → begins_absent level cells ≡ n → HasFields s → length (leaf_paths s) ≤ length cells → Inner s cells path
    → field_made true (passed s) (made s) level cells ≡ Err (level_mismatch path) → FailsAt (FitsField true (FitsShape s)) (field_cells true s level) (leaf_paths s) cells path
optional_fails true s level cells path is has long inner h =
    let go : field_made true (passed s) (made s) level cells ≡ (passed s level cells >>= λ l. Ok (null, l)) = rw is refl in
    elim (bind_err (passed s level cells) (λ l. Ok (null, l)) (level_mismatch path) (sym go ∙ h)) [
      | inl first ↦ null_fails s level cells path has is (passed_fails s level cells path long first)
      | inr never ↦ absurd (ok_err (null, never.0) (level_mismatch path) never.2)
    ]
optional_fails false s level cells path is has long inner h =
    let go : field_made true (passed s) (made s) level cells ≡ made s (level + 1) cells = rw is refl in
    let no_null : NoNull true s level cells = λ k may agrees. false≢true (sym is ∙ (sym (begin_alike level k (absent_cells level (ways s)) cells agrees) ∙ nulls_begin s level has)) in
    there_fails true s level cells path no_null (inner (level + 1) (sym go ∙ h))

field_fails : (optional : Bool) (s : Shape) (level : ℕ) (cells : List Cell) (path : Path) → HasFields s → length (leaf_paths s) ≤ length cells → Inner s cells path
    → field_made optional (passed s) (made s) level cells ≡ Err (level_mismatch path) → FailsAt (FitsField optional (FitsShape s)) (field_cells optional s level) (leaf_paths s) cells path
field_fails true s level cells path has long inner h = optional_fails (begins_absent level cells) s level cells path refl has long inner h
field_fails false s level cells path has long inner h = there_fails false s level cells path (λ k may agrees. false≢true may) (inner level h)

-- ---- a value

value_found : (level : ℕ) (v : Value) → is_plain v ≡ true → value_in level (present_cell level v) ≡ Some v
value_found level v plain = rw (level_same level, plain) refl

leaf_made : (o : Option Value) (level : ℕ) (c : Cell) (cells : List Cell) (path : Path) → value_in level c ≡ o → made leaf level (c ∷ cells) ≡ Err (level_mismatch path) → FailsAt (FitsShape leaf) (cells_of leaf level) (leaf_paths leaf) (c ∷ cells) path
leaf_made (Some v) level c cells path is h =
    let done : made leaf level (c ∷ cells) ≡ Ok (v, cells) = rw is refl in
    absurd (ok_err (v, cells) (level_mismatch path) (sym done ∙ h))
leaf_made None level c cells path is h =
    let done : made leaf level (c ∷ cells) ≡ Err (level_mismatch None) = rw is refl in
    let here : None ≡ path = path_same {A = Value × List Cell} None path (sym done ∙ h) in
    record {
      place = 0;
      within = omega arith;
      told = ap (λ (p : Path). Some p) here;
      some_value = truth true;
      some_fits = refl;
      some_agrees = refl;
      none_agrees = λ v fit agrees. (let same : present_cell level v ≡ c = front_same (present_cell level v) c [] (take 0 cells) agrees in none-some v (sym is ∙ (ap (value_in level) (sym same) ∙ value_found level v fit)));
    }

-- a struct, as its values
struct_values : (fs : Fields) (level : ℕ) (v : Value) → FitsShape (struct fs) v → (vs : Values) × FitFields fs vs × (cells_of_fields fs level vs ≡ cells_of (struct fs) level v)
struct_values fs level (structure vs) fit = (vs, fit, refl)
struct_values fs level _ fit = absurd fit

-- values, as the first and the others
first_and_others : (name : List ℕ) (optional : Bool) (s : Shape) (fs : Fields) (level : ℕ) (vs : Values) → FitFields (field name optional s fs) vs
    → (x : Value × Values) × Both (FitsField optional (FitsShape s)) (FitFields fs) x × (both (field_cells optional s level) (cells_of_fields fs level) x ≡ cells_of_fields (field name optional s fs) level vs)
first_and_others name optional s fs level no_values fit = absurd fit
first_and_others name optional s fs level (value v vs) fit = ((v, vs), (fit.0, fit.1), refl)

mutual
  pub made_fails : (s : Shape) (level : ℕ) (cells : List Cell) (path : Path) → HasFields s → length (leaf_paths s) ≤ length cells → made s level cells ≡ Err (level_mismatch path) → FailsAt (FitsShape s) (cells_of s level) (leaf_paths s) cells path
  made_fails leaf level [] path has long h = absurd (omega (arith, long))
  made_fails leaf level (c ∷ cells) path has long h = leaf_made (value_in level c) level c cells path refl h
  made_fails (struct fs) level cells path has long h =
      elim (bind_err (made_fields fs level cells) (λ given. Ok (structure (values_of given.0), given.1)) (level_mismatch path) h) [
        | inl first ↦ fails_as (FitFields fs) (FitsShape (struct fs)) (cells_of_fields fs level) (cells_of (struct fs) level) (paths_of_fields fs) cells path structure (λ vs fit. fit) (λ vs fit. refl) (struct_values fs level) (fields_fails fs level cells path (has_have fs has) long first)
        | inr never ↦ absurd (ok_err (structure (values_of never.0.0), never.0.1) (level_mismatch path) never.2)
      ]

  fields_fails : (fs : Fields) (level : ℕ) (cells : List Cell) (path : Path) → HaveFields fs → length (paths_of_fields fs) ≤ length cells → made_fields fs level cells ≡ Err (level_mismatch path) → FailsAt (FitFields fs) (cells_of_fields fs level) (paths_of_fields fs) cells path
  fields_fails no_fields level cells path have long h = absurd (ok_err ([], cells) (level_mismatch path) h)
  fields_fails (field name optional s fs) level cells path have long h =
      let Mine = FitsField optional (FitsShape s) in
      let Theirs = FitFields fs in
      let mine = field_cells optional s level in
      let theirs = cells_of_fields fs level in
      let all = cells_of_fields (field name optional s fs) level in
      let paths = leaf_paths s in
      let others = paths_of_fields fs in
      let counted = paths_split name s others in
      let each : (v : Value) → Mine v → length (mine v) ≡ length paths = λ v fit. field_length (is_null v) optional s level v refl fit (λ inside. cells_length s (level_inside optional level) v inside) ∙ sym (paths_long s) in
      let again : (p : Path) → FailsAt (Both Mine Theirs) (both mine theirs) (paths_behind name paths others) cells p → FailsAt (FitFields (field name optional s fs)) all (paths_of_fields (field name optional s fs)) cells p =
      λ p f. fails_as (Both Mine Theirs) (FitFields (field name optional s fs)) (both mine theirs) all (paths_behind name paths others) cells p (λ x. value x.0 x.1) (λ x fits. (fits.0, fits.1)) (λ x fits. refl) (first_and_others name optional s fs level) f in
      elim (bind_err (refused_as (inside name) (field_made optional (passed s) (made s) level cells)) (λ first. made_fields fs level first.1 >>= λ rest. Ok (first.0 ∷ rest.0, rest.1)) (level_mismatch path) h) [
        | inl first ↦ (let q = told_mismatch name (field_made optional (passed s) (made s) level cells) path first in
            let fewer : length paths ≤ length cells = omega (arith, long, counted) in
            let inner = field_fails optional s level cells q.0 have.0 fewer (λ n e. made_fails s n cells q.0 have.0 fewer e) q.1 in
            again path (subst (λ p. FailsAt (Both Mine Theirs) (both mine theirs) (paths_behind name paths others) cells p) q.2 (fails_first Mine Theirs mine theirs name paths others cells q.0 each (plain_values fs) (plain_fit fs) inner)))
        | inr later ↦ (let left = later.0.1 in
            let there = field_sound optional s level cells later.0.0 left (λ n cs w l e. made_sound s n cs w l e) (told_ok (inside name) (field_made optional (passed s) (made s) level cells) later.0 later.1) in
            let total = ap length there.1 ∙ length-append (mine later.0.0) left in
            let front = each later.0.0 there.0 in
            let enough : length others ≤ length left = omega (arith, long, counted, total, front) in
            elim (bind_err (made_fields fs level left) (λ rest. Ok (later.0.0 ∷ rest.0, rest.1)) (level_mismatch path) later.2) [
              | inl rest ↦ again path (fails_other Mine Theirs mine theirs name paths others cells left path each later.0.0 there.0 there.1 (fields_fails fs level left path have.1 enough rest))
              | inr never ↦ absurd (ok_err (later.0.0 ∷ never.0.0, never.0.1) (level_mismatch path) never.2)
            ])
      ]
