-- What a reader of a column's pages has left, as it goes from one page to the next.
use Rattle.std.proofs.Common.{◌≡◌, ℕ, ℤ, zero, suc, ◌-◌, ◌+◌, ◌≤◌, ◌<◌, ◌⊎◌, inl, inr, true, false, eqb, cond, nat_eq, List, [], length, Result, Ok, Err, refl, sym, ap, subst, ◌∙◌, arith}
use Rattle.std.proofs.lemmas.Bool.{ne_eqb}
use Rattle.std.proofs.lemmas.List.{length-append, nil_from_length}
use Rattle.std.proofs.lemmas.List.Elements.{All-nil, All-append}
use Rattle.std.proofs.lemmas.List.Sums.{sum_by-append}
use Rattle.outcomes.specs.Results.{◌>>=◌}
use Rattle.row_core.specs.Rows.{Value}
use Rattle.shred.specs.Columns.{Column}
use Rattle.shred.specs.Fits.{is_plain}
use Rattle.shred.specs.Parts.{ArePlain}
use Rattle.parquet_pages.specs.Held.{AreLeft, Fills, HoldsPage, IsFilled}
use Rattle.page_cells.specs.Left.{HasValuesLeft}
use Rattle.page_cells.specs.Levels.{levels_at, present}
use Rattle.page_cells.specs.Outcome.{FindsWhere, in_page}
use Rattle.parquet_pages.specs.Pages.{Leaf, highest, joined, no_cells}
use Rattle.page_cells.specs.Plain.{plain_at}
use Rattle.parquet_pages.specs.Reading.{cells_at, chunk_at, column_in, first_place, page_at, pages_at, tested}
use Rattle.parquet_pages.specs.Views.{leaf_view}
use Rattle.parquet_pages.specs.declared.reader.ColumnReader.{ColumnReader}
use Rattle.parquet_footer.specs.declared.fault.FileError.{FileError}
use Rattle.parquet_footer.specs.declared.fault.FileError.TheVariants as errors
use Rattle.parquet_footer.specs.declared.fault.FileFault.{FileFault}
use Rattle.parquet_pages.proofs.CodeChunks.{page_body}
use Rattle.parquet_pages.proofs.CodePages.{tested_passes}
use Rattle.page_cells.proofs.Callers.{fine_step, ok_step, plain_read}

-- ---- a column that was read

-- It has a value for each highest level, and none that is null or a struct.
pub record IsFull (l : Leaf) (c : Column) : Type 0 where
  pub each : present (highest l) c.levels ≡ length c.values
  pub plain : ArePlain c

cells_full : (l : Leaf) (count : ℕ) (body : List ℕ) (c : Column) (behind : List ℕ)
    → cells_at l.leaf_type (highest l) count body ≡ Ok (c, behind) → IsFull l c
unfolding cells_at
cells_full l count body c behind h =
    let levels = ok_step (levels_at (highest l) count body)
    (λ levels. plain_at l.leaf_type (present (highest l) levels.0) levels.1
    >>= λ values. Ok (record { levels = levels.0; values = values.0 }, values.1)) (c, behind) h in
    let values = ok_step (plain_at l.leaf_type (present (highest l) levels.0.0) levels.0.1)
    (λ values. Ok (record { levels = levels.0.0; values = values.0 }, values.1)) (c, behind) levels.2 in
    let read = plain_read l.leaf_type (present (highest l) levels.0.0) levels.0.1 values.0.0 values.0.1 values.1 in
    let is : record { levels = levels.0.0; values = values.0.0 } ≡ c =
    first_same (record { levels = levels.0.0; values = values.0.0 }) c values.0.1 behind values.2 in
    subst (λ (c : Column). IsFull l c) is (record { each = sym read.many; plain = read.plain })
  where
    first_same : {E : Type 0} (a b : Column) (m n : List ℕ)
        → ◌≡◌ {A = Result (Column × List ℕ) E} (Ok (a, m)) (Ok (b, n)) → a ≡ b
    first_same a b m n e =
        let parts : ◌≡◌ {A = Column × List ℕ} (a, m) (b, n) = cc in
        ap (λ (p : Column × List ℕ). p.0) parts

column_full : (l : Leaf) (left count : ℕ) (body : List ℕ) (c : Column) → column_in l left count body ≡ Ok c
    → IsFull l c
unfolding column_in
column_full l left count body c h =
    let cells = fine_step in_page (cells_at l.leaf_type (highest l) count body) (λ cells. tested l left cells.0 cells.1)
    c h in
    let p = tested_passes l left cells.0.0 cells.0.1 c cells.2 in
    subst (λ (c : Column). IsFull l c) p.same (cells_full l count body cells.0.0 cells.0.1 cells.1)

pub page_full : (l : Leaf) (given : List ℕ) (place left : ℕ) (c : Column) (next : ℕ)
    → page_at l given place left ≡ Ok (c, next) → IsFull l c
page_full l given place left c next h =
    let body = page_body l given place left c next h in
    column_full l left body.0.0 body.0.1 c body.1

pub both_full : (l : Leaf) (a b : Column) → IsFull l a → IsFull l b → IsFull l (joined a b)
both_full l a b first others = record {
  each = sum_by-append (λ level. cond (nat_eq level (highest l)) 1 0) a.levels b.levels
      ∙ ap (λ (n : ℕ). n + present (highest l) b.levels) first.each
      ∙ ap (λ (n : ℕ). length a.values + n) others.each
      ∙ sym (length-append a.values b.values);
  plain = All-append (λ v. is_plain v ≡ true) a.values b.values first.plain others.plain;
}

-- So is the column of pages one behind the other.
pub pages_full : (most : ℕ) (l : Leaf) (given : List ℕ) (place left : ℕ) (c : Column)
    → pages_at most l given place left ≡ Ok c → IsFull l c
unfolding pages_at
pages_full most l given place zero c h =
    let none : no_cells ≡ c = cc in
    subst (λ (c : Column). IsFull l c) none (record { each = refl; plain = All-nil (λ v. is_plain v ≡ true) })
pages_full zero l given place (suc left) c h = absurd cc
pages_full (suc most) l given place (suc left) c h =
    let page = ok_step (page_at l given place (suc left))
    (λ page. pages_at most l given page.1 (suc left - length page.0.levels)
    >>= λ others. Ok (joined page.0 others)) c h in
    let others = ok_step (pages_at most l given page.0.1 (suc left - length page.0.0.levels))
    (λ others. Ok (joined page.0.0 others)) c page.2 in
    let is : joined page.0.0 others.0 ≡ c = same_column (joined page.0.0 others.0) c others.2 in
    let all = both_full l page.0.0 others.0 (page_full l given place (suc left) page.0.0 page.0.1 page.1)
    (pages_full most l given page.0.1 (suc left - length page.0.0.levels) others.0 others.1) in
    subst (λ (c : Column). IsFull l c) is all
  where
    same_column : (a b : Column) → ◌≡◌ {A = Result Column FileFault} (Ok a) (Ok b) → a ≡ b
    same_column a b e = cc

-- ---- what a reader has left

-- The column that is left has a value for each highest level, and none that is null or a struct.
pub left_full : (l : Leaf) (r : ColumnReader) (c : Column) → AreLeft l r c
    → (present (highest l) c.levels ≡ length c.values) × ArePlain c
left_full l r c left =
    let here : IsFull l left.here = record { each = left.held.value_each; plain = left.held.plain } in
    let behind = pages_full left.most l r.bytes.now r.place r.left left.behind left.read in
    let both = both_full l left.here left.behind here behind in
    let full : IsFull l c = subst (λ (c : Column). IsFull l c) (sym left.parts) both in
    (full.each, full.plain)

-- This column is left of these bytes, and behind the page at hand there are at most so many pages.
pub record AreLeftWithin (given : List ℕ) (n : ℕ) (l : Leaf) (r : ColumnReader) (c : Column) : Type 0 where
  pub here : Column
  pub behind : Column
  pub parts : c ≡ joined here behind
  pub held : HoldsPage l r here
  pub most : ℕ
  pub few : most ≤ n
  pub same : r.bytes.now ≡ given
  pub read : pages_at most l given r.place r.left ≡ Ok behind

-- Each page takes a byte at least.
pub all_within : (l : Leaf) (r : ColumnReader) (c : Column) → AreLeft l r c
    → AreLeftWithin r.bytes.now (length r.bytes.now) l r c
all_within l r c left = record {
  here = left.here;
  behind = left.behind;
  parts = left.parts;
  held = left.held;
  most = left.most;
  few = left.few;
  same = refl;
  read = left.read;
}

pub within_all : (given : List ℕ) (n : ℕ) (l : Leaf) (r : ColumnReader) (c : Column) → n ≤ length given
    → AreLeftWithin given n l r c → AreLeft l r c
within_all given n l r c less left =
    let few : left.most ≤ length r.bytes.now = omega (arith, left.few, less, ap length left.same) in
    let read : pages_at left.most l r.bytes.now r.place r.left ≡ Ok left.behind =
    ap (λ (bytes : List ℕ). pages_at left.most l bytes r.place r.left) left.same ∙ left.read in
    record {
      here = left.here;
      behind = left.behind;
      parts = left.parts;
      held = left.held;
      most = left.most;
      few = few;
      read = read;
    }

-- no cells are at hand
none_here : (l : Leaf) (r : ColumnReader) (c : Column) → r.count ≡ 0 → HoldsPage l r c → c ≡ no_cells
none_here l r c none held =
    let no_levels : c.levels ≡ [] = nil_from_length c.levels (sym held.counted ∙ none) in
    let no_values : c.values ≡ [] = nil_from_length c.values
    (sym held.value_each ∙ ap (present (highest l)) no_levels) in
    nothing c.levels c.values no_levels no_values
  where
    nothing : (levels : List ℕ) (values : List Value) → levels ≡ [] → values ≡ []
        → ◌≡◌ {A = Column} (record { levels = levels; values = values }) no_cells
    nothing levels values no_levels no_values = rw (no_levels, no_values) refl

-- No page is left behind the one at hand.
none_behind : (most : ℕ) (l : Leaf) (given : List ℕ) (place left : ℕ) (c : Column) → (left ≡ 0) ⊎ (most ≡ 0)
    → pages_at most l given place left ≡ Ok c → c ≡ no_cells
unfolding pages_at
none_behind most l given place zero c h is =
    let none : no_cells ≡ c = cc in
    sym none
none_behind zero l given place (suc left) c h is = absurd cc
none_behind (suc most) l given place (suc left) c (inl h) is = absurd cc
none_behind (suc most) l given place (suc left) c (inr h) is = absurd cc

-- A page, and the column that is left behind it, in at most so many pages.
record IsFirst (most : ℕ) (l : Leaf) (given : List ℕ) (place left : ℕ) (c : Column) : Type 0 where
  page : Column
  next : ℕ
  others : Column
  fewer : ℕ
  less : fewer + 1 ≤ most
  stands : page_at l given place left ≡ Ok (page, next)
  read : pages_at fewer l given next (left - length page.levels) ≡ Ok others
  parts : c ≡ joined page others

first_page : (most : ℕ) (l : Leaf) (given : List ℕ) (place left : ℕ) (c : Column) → 0 < left
    → pages_at most l given place left ≡ Ok c → IsFirst most l given place left c
unfolding pages_at
first_page most l given place zero c some h = absurd (omega arith)
first_page zero l given place (suc left) c some h = absurd cc
first_page (suc most) l given place (suc left) c some h =
    let page = ok_step (page_at l given place (suc left))
    (λ page. pages_at most l given page.1 (suc left - length page.0.levels)
    >>= λ others. Ok (joined page.0 others)) c h in
    let others = ok_step (pages_at most l given page.0.1 (suc left - length page.0.0.levels))
    (λ others. Ok (joined page.0.0 others)) c page.2 in
    record {
      page = page.0.0;
      next = page.0.1;
      others = others.0;
      fewer = most;
      less = omega arith;
      stands = page.1;
      read = others.1;
      parts = same_column c (joined page.0.0 others.0) (sym others.2);
    }
  where
    same_column : (a b : Column) → ◌≡◌ {A = Result Column FileFault} (Ok a) (Ok b) → a ≡ b
    same_column a b e = cc

-- The page that comes next, where no cells are at hand, and what is left behind it.
pub record IsNext (given : List ℕ) (n : ℕ) (l : Leaf) (r : ColumnReader) (c : Column) : Type 0 where
  pub page : Column
  pub next : ℕ
  pub others : Column
  pub parts : c ≡ joined page others
  pub stands : page_at l r.bytes.now r.place r.left ≡ Ok (page, next)
  pub fewer : ℕ
  pub less : fewer + 1 ≤ n
  pub same : r.bytes.now ≡ given
  pub read : pages_at fewer l given next (r.left - length page.levels) ≡ Ok others

pub next_stands : (given : List ℕ) (n : ℕ) (l : Leaf) (r : ColumnReader) (c : Column) → r.count ≡ 0 → 0 < r.left
    → AreLeftWithin given n l r c → IsNext given n l r c
next_stands given n l r c none some left =
    let first = first_page left.most l given r.place r.left left.behind some left.read in
    let parts : c ≡ left.behind =
    left.parts ∙ ap (λ (here : Column). joined here left.behind) (none_here l r left.here none left.held) in
    record {
      page = first.page;
      next = first.next;
      others = first.others;
      parts = parts ∙ first.parts;
      stands = ap (λ (bytes : List ℕ). page_at l bytes r.place r.left) left.same ∙ first.stands;
      fewer = first.fewer;
      less = omega (arith, first.less, left.few);
      same = left.same;
      read = first.read;
    }

-- Where the next page is held, the same column is left, in one page less.
pub next_held : (given : List ℕ) (n m : ℕ) (l : Leaf) (old new : ColumnReader) (c : Column)
    (is : IsNext given n l old c) → n ≤ m + 1 → HoldsPage l new is.page → new.bytes.now ≡ old.bytes.now
    → new.place ≡ is.next → new.left ≡ old.left - length is.page.levels → AreLeftWithin given m l new c
next_held given n m l old new c is less held bytes place left = record {
  here = is.page;
  behind = is.others;
  parts = is.parts;
  held = held;
  most = is.fewer;
  few = omega (arith, is.less);
  same = bytes ∙ is.same;
  read = rw (place, left) is.read;
}

-- So many cells are at hand, none only where none is left.
pub filled : (given : List ℕ) (n : ℕ) (l : Leaf) (r : ColumnReader) (c : Column) → n ≤ length given
    → (r.count ≡ 0 → (r.left ≡ 0) ⊎ (n ≡ 0)) → AreLeftWithin given n l r c → IsFilled l r r.count c
filled given n l r c less ends left = record {
  left = within_all given n l r c less left;
  counted = refl;
  none = λ none. ap (λ (c : Column). c.levels) (nothing none);
}
  where
    last : (r.left ≡ 0) ⊎ (n ≡ 0) → (r.left ≡ 0) ⊎ (left.most ≡ 0)
    last (inl h) = inl h
    last (inr h) = inr (omega (arith, left.few))

    nothing : r.count ≡ 0 → c ≡ no_cells
    nothing none =
        let here = none_here l r left.here none left.held in
        let behind = none_behind left.most l given r.place r.left left.behind (last (ends none)) left.read in
        left.parts ∙ ap (λ (a : Column). joined a left.behind) here ∙ behind

-- Where the next page stands, a failure is that memory ran out, and the reader has left what it had.
pub not_filled : {X : Type 0} (Is : X → Type 0) (l : Leaf) (c : Column) (e : FileError) (r : ColumnReader)
    → FindsWhere Is (Err e) → AreLeft l r c → Fills l c (Err e) r
not_filled Is l c errors.Memory r h left = left
not_filled Is l c (errors.Fault fault) r h left = absurd h

-- ---- a chunk

-- A chunk's column, where no page was looked at: its pages stand from a place on, if it has values.
pub chunk_pages : (l : Leaf) (given : List ℕ) (stated : ℤ) (num_values place : ℕ) (c : Column)
    → (num_values ≡ 0) ⊎ (first_place stated ≡ Ok place)
    → chunk_at l given stated num_values ≡ Ok c → pages_at (length given) l given place num_values ≡ Ok c
unfolding chunk_at pages_at
chunk_pages l given stated zero place c begins h = h
chunk_pages l given stated (suc n) place c (inl none) h = absurd cc
chunk_pages l given stated (suc n) place c (inr at_place) h =
    let some : eqb (suc n) 0 ≡ false = ne_eqb (suc n) 0 (λ none. absurd cc) in
    rw (some, at_place) at h

-- A reader that holds no cells, and stands where a chunk's pages begin, has its column left.
pub opened : (l : Leaf) (r : ColumnReader) (stated : ℤ) (c : Column) → leaf_view r.leaf ≡ l → r.count ≡ 0
    → r.levels ≡ [] → HasValuesLeft l.leaf_type r.values []
    → (r.left ≡ 0) ⊎ (first_place stated ≡ Ok r.place)
    → chunk_at l r.bytes.now stated r.left ≡ Ok c → AreLeft l r c
opened l r stated c leaf none no_levels no_values begins h = record {
  here = no_cells;
  behind = c;
  parts = refl;
  held = record {
    leaf = leaf;
    counted = none;
    levels = no_levels;
    values = no_values;
    value_each = refl;
    plain = All-nil (λ v. is_plain v ≡ true);
  };
  most = length r.bytes.now;
  few = omega arith;
  read = chunk_pages l r.bytes.now stated r.left r.place c begins h;
}
