-- Columns are refused as uneven just where they are.
use Rattle.std.proofs.Common.{◌≡◌, ◌==◌, ◌⊎◌, inl, inr, ℕ, zero, suc, ◌+◌, length, List, [], ◌∷◌, map, drop, count_by, Bool, true, false, if◌then◌else◌, Option, Some, None, Result, Ok, Err, refl, sym, ap, ◌∙◌}
use Rattle.std.specs.Prelude.{◌↔◌}
use Rattle.std.specs.List.{AllZip}
use Rattle.std.proofs.lemmas.Bool.{and_parts, and_from}
use Rattle.std.proofs.lemmas.Option.{none-some}
use Rattle.outcomes.specs.Results.{◌>>=◌, or_refusal, refused_as}
use Rattle.row_core.specs.Rows.{null, structure, values_of}
use Rattle.shred.specs.Shape.{Shape, leaf, struct, Fields, no_fields, field}
use Rattle.shred.specs.Ways.{Step, ways, highest}
use Rattle.shred.specs.Columns.{Cell, Column}
use Rattle.row_assembly.specs.Faults.{Fault, uneven_columns, level_mismatch, inside}
use Rattle.row_assembly.specs.Assembly.{IsWhole, AreEven, is_absent, value_in, begins_absent, passed, passed_fields, field_made, made, made_fields, is_even, cells_of_column, cells_of_columns, row_count, heads, row_made, rows_made, assembled}
use Rattle.row_assembly.specs.Mismatch.{cells_of_ways}
use Rattle.row_assembly.proofs.Rests.{bind_ok, or_ok, level_same, level_is}

-- ---- a row is never refused as uneven

pub err_same : {A : Type 0} (e f : Fault) → (let r : Result A Fault = Err e in r) ≡ Err f → e ≡ f
err_same e f h = cc

pub ok_err : {A : Type 0} (x : A) (e : Fault) → Ok x ≡ Err e → ⊥
ok_err x e h = absurd cc

pub bind_err : {A B : Type 0} (r : Result A Fault) (f : A → Result B Fault) (e : Fault) → (r >>= f) ≡ Err e → (r ≡ Err e) ⊎ ((x : A) × (r ≡ Ok x) × (f x ≡ Err e))
bind_err {A} {B} (Err d) f e h = inl (ap (λ x. Err x) (err_same d e h))
bind_err (Ok x) f e h = inr (x, refl, h)

inside_uneven : (name : List ℕ) (fault : Fault) → inside name fault ≡ uneven_columns → fault ≡ uneven_columns
inside_uneven name uneven_columns h = refl
inside_uneven name (level_mismatch path) h = absurd cc

-- it isn't refused as uneven
abbrev Fair : {A : Type 0} → Result A Fault → Type 0
Fair r = r ≡ Err uneven_columns → ⊥

told_fair : {A : Type 0} (name : List ℕ) (r : Result A Fault) → Fair r → Fair (refused_as (inside name) r)
told_fair name (Ok x) fair h = absurd cc
told_fair {A} name (Err fault) fair h = fair (ap (λ x. Err x) (inside_uneven name fault (err_same (inside name fault) uneven_columns h)))

bind_fair : {A B : Type 0} (r : Result A Fault) (f : A → Result B Fault) → Fair r → ((x : A) → Fair (f x)) → Fair (r >>= f)
bind_fair (Ok x) f fair next h = next x h
bind_fair (Err d) f fair next h = fair (ap (λ x. Err x) (err_same d uneven_columns h))

ok_fair : {A : Type 0} (x : A) → Fair (Ok x)
ok_fair x h = absurd cc

mismatch_fair : {A : Type 0} → (let r : Result A Fault = Err (level_mismatch None) in r) ≡ Err uneven_columns → ⊥
mismatch_fair h = absurd cc

or_fair : {A : Type 0} (o : Option A) → Fair (or_refusal o (level_mismatch None))
or_fair None h = mismatch_fair h
or_fair (Some x) h = ok_fair x h

either_fair : {A : Type 0} (n : Bool) (r s : Result A Fault) → Fair r → Fair s → Fair (if n then r else s)
either_fair true r s one other h = one h
either_fair false r s one other h = other h

mutual
  passed_fair : (s : Shape) (level : ℕ) (cells : List Cell) → Fair (passed s level cells)
  passed_fair leaf level [] h = mismatch_fair h
  passed_fair leaf level (c ∷ cells) h = either_fair (is_absent level c) (Ok cells) (Err (level_mismatch None)) (ok_fair cells) mismatch_fair h
  passed_fair (struct fs) level cells h = passed_fields_fair fs level cells h

  passed_fields_fair : (fs : Fields) (level : ℕ) (cells : List Cell) → Fair (passed_fields fs level cells)
  passed_fields_fair no_fields level cells h = ok_fair cells h
  passed_fields_fair (field name optional s fs) level cells h = bind_fair (refused_as (inside name) (passed s level cells)) (λ left. passed_fields fs level left) (told_fair name (passed s level cells) (λ e. passed_fair s level cells e)) (λ left e. passed_fields_fair fs level left e) h

field_fair : (optional : Bool) (s : Shape) (level : ℕ) (cells : List Cell) → ((n : ℕ) → Fair (made s n cells)) → Fair (field_made optional (passed s) (made s) level cells)
field_fair false s level cells inner h = inner level h
field_fair true s level cells inner h =
    either_fair (begins_absent level cells) (passed s level cells >>= λ left. Ok (null, left)) (made s (level + 1) cells) (bind_fair (passed s level cells) (λ left. Ok (null, left)) (passed_fair s level cells) (λ left e. ok_fair (null, left) e)) (inner (level + 1)) h

mutual
  made_fair : (s : Shape) (level : ℕ) (cells : List Cell) → Fair (made s level cells)
  made_fair leaf level [] h = mismatch_fair h
  made_fair leaf level (c ∷ cells) h = bind_fair (or_refusal (value_in level c) (level_mismatch None)) (λ v. Ok (v, cells)) (or_fair (value_in level c)) (λ v e. ok_fair (v, cells) e) h
  made_fair (struct fs) level cells h = bind_fair (made_fields fs level cells) (λ given. Ok (structure (values_of given.0), given.1)) (λ e. made_fields_fair fs level cells e) (λ given e. ok_fair (structure (values_of given.0), given.1) e) h

  made_fields_fair : (fs : Fields) (level : ℕ) (cells : List Cell) → Fair (made_fields fs level cells)
  made_fields_fair no_fields level cells h = ok_fair ([], cells) h
  made_fields_fair (field name optional s fs) level cells h =
      let one = told_fair name (field_made optional (passed s) (made s) level cells) (field_fair optional s level cells (λ n e. made_fair s n cells e)) in
      bind_fair (refused_as (inside name) (field_made optional (passed s) (made s) level cells)) (λ first. made_fields fs level first.1 >>= λ others. Ok (first.0 ∷ others.0, others.1)) one
      (λ first e. bind_fair (made_fields fs level first.1) (λ others. Ok (first.0 ∷ others.0, others.1)) (λ d. made_fields_fair fs level first.1 d) (λ others d. ok_fair (first.0 ∷ others.0, others.1) d) e) h

row_fair : (s : Shape) (cells : List Cell) → Fair (row_made s cells)
row_fair s cells h = bind_fair (made s 0 cells) (λ row. Ok row.0) (made_fair s 0 cells) (λ row e. ok_fair row.0 e) h

pub rows_fair : (s : Shape) (n : ℕ) (css : List (List Cell)) → Fair (rows_made s n css)
rows_fair s zero css h = ok_fair [] h
rows_fair s (suc n) css h =
    let others = rows_made s n (map (drop 1) css) in
    bind_fair (row_made s (heads css)) (λ row. others >>= λ rest. Ok (row ∷ rest)) (row_fair s (heads css)) (λ row e. bind_fair others (λ rest. Ok (row ∷ rest)) (λ d. rows_fair s n (map (drop 1) css) d) (λ rest d. ok_fair (row ∷ rest) d) e) h

-- ---- columns are opened where they are even

same_level : (m n : ℕ) → m ≡ n → (m == n) ≡ true
same_level m n h = ap (λ k. m == k) (sym h) ∙ level_same m

pub even_opens : (rows : ℕ) (ws : List (List Step)) (cs : List Column) → AllZip (IsWhole rows) ws cs → cells_of_columns rows (map highest ws) cs ≡ Ok (cells_of_ways ws cs)
even_opens rows [] [] even = refl
even_opens rows [] (c ∷ cs) even = absurd even
even_opens rows (w ∷ ws) [] even = absurd even
even_opens rows (w ∷ ws) (c ∷ cs) even =
    let levels = same_level (length c.levels) rows even.0.levels_each in
    let values = same_level (count_by (λ level. level == highest w) c.levels) (length c.values) even.0.values_each in
    let one : is_even rows (highest w) c ≡ true = and_from (length c.levels == rows) (count_by (λ level. level == highest w) c.levels == length c.values) levels values in
    let rest = even_opens rows ws cs even.1 in
    rw (one, rest) refl

column_even : (n : Bool) (rows : ℕ) (way : List Step) (c : Column) (cells : List Cell) → is_even rows (highest way) c ≡ n → cells_of_column rows (highest way) c ≡ Some cells → IsWhole rows way c
column_even true rows way c cells is h =
    let parts = and_parts (length c.levels == rows) (count_by (λ level. level == highest way) c.levels == length c.values) is in
    record {
      levels_each = level_is (length c.levels) rows parts.0;
      values_each = level_is (count_by (λ level. level == highest way) c.levels) (length c.values) parts.1;
    }
column_even false rows way c cells is h =
    let go : cells_of_column rows (highest way) c ≡ None = rw is refl in
    absurd (none-some cells (sym go ∙ h))

pub opens_even : (rows : ℕ) (ws : List (List Step)) (cs : List Column) (css : List (List Cell)) → cells_of_columns rows (map highest ws) cs ≡ Ok css → AllZip (IsWhole rows) ws cs
opens_even rows [] [] css h = tt
opens_even rows [] (c ∷ cs) css h = absurd cc
opens_even rows (w ∷ ws) [] css h = absurd cc
opens_even rows (w ∷ ws) (c ∷ cs) css h =
    let b = bind_ok (or_refusal (cells_of_column rows (highest w) c) uneven_columns) (λ cells. cells_of_columns rows (map highest ws) cs >>= λ others. Ok (cells ∷ others)) css h in
    let d = bind_ok (cells_of_columns rows (map highest ws) cs) (λ others. Ok (b.0 ∷ others)) css b.2 in
    let found = or_ok (cells_of_column rows (highest w) c) uneven_columns b.0 b.1 in
    (column_even (is_even rows (highest w) c) rows w c b.0 refl found, opens_even rows ws cs d.0 d.1)

or_err : {A : Type 0} (o : Option A) (e : Fault) → or_refusal o uneven_columns ≡ Err e → e ≡ uneven_columns
or_err {A} None e h = sym (err_same {A = A} uneven_columns e h)
or_err (Some x) e h = absurd cc

pub refused_uneven : (rows : ℕ) (tops : List ℕ) (cs : List Column) (e : Fault) → cells_of_columns rows tops cs ≡ Err e → e ≡ uneven_columns
refused_uneven rows [] [] e h = absurd cc
refused_uneven rows [] (c ∷ cs) e h = sym (err_same {A = List (List Cell)} uneven_columns e h)
refused_uneven rows (top ∷ tops) [] e h = sym (err_same {A = List (List Cell)} uneven_columns e h)
refused_uneven rows (top ∷ tops) (c ∷ cs) e h =
    elim (bind_err (or_refusal (cells_of_column rows top c) uneven_columns) (λ cells. cells_of_columns rows tops cs >>= λ others. Ok (cells ∷ others)) e h) [
      | inl first ↦ or_err (cells_of_column rows top c) e first
      | inr later ↦ elim (bind_err (cells_of_columns rows tops cs) (λ others. Ok (later.0 ∷ others)) e later.2) [
        | inl rest ↦ refused_uneven rows tops cs e rest
        | inr never ↦ absurd (ok_err (later.0 ∷ never.0) e never.2)
      ]
    ]

-- ---- whole columns

even_fair : (s : Shape) (given : List Column) → AreEven s given → Fair (assembled s given)
unfolding assembled
even_fair s given even h =
    let css = cells_of_ways (ways s) given in
    let opened = even_opens (row_count given) (ways s) given even in
    let go : (cells_of_columns (row_count given) (map highest (ways s)) given >>= λ cells. rows_made s (row_count given) cells) ≡ rows_made s (row_count given) css = rw opened refl in
    rows_fair s (row_count given) css (sym go ∙ h)

uneven_from : (s : Shape) (given : List Column) (r : Result (List (List Cell)) Fault) → cells_of_columns (row_count given) (map highest (ways s)) given ≡ r → (AreEven s given → ⊥) → assembled s given ≡ Err uneven_columns
unfolding assembled
uneven_from s given (Ok css) is not_even = absurd (not_even (opens_even (row_count given) (ways s) given css is))
uneven_from s given (Err e) is not_even =
    let fault = refused_uneven (row_count given) (map highest (ways s)) given e is in
    rw is (ap (λ x. Err x) fault)

pub refused_where_uneven : (s : Shape) (given : List Column) → (assembled s given ≡ Err uneven_columns) ↔ (AreEven s given → ⊥)
refused_where_uneven s given = (λ h even. even_fair s given even h, λ not_even. uneven_from s given (cells_of_columns (row_count given) (map highest (ways s)) given) refl not_even)
