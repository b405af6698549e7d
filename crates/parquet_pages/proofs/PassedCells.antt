-- Cells that are passed, some after others, and pages that are marked among those of a column.
use Rattle.std.proofs.Common.{◌≡◌, ℕ, ◌+◌, ◌-◌, ◌<◌, ◌≤◌, ◌⊎◌, inl, inr, true, cond, nat_eq, List, [], ◌++◌, length, take, drop, Result, Ok, Err, refl, sym, ap, subst, ◌∙◌, append_assoc, arith}
use Rattle.std.proofs.Math.Seq.{drop-nil, take-nil}
use Rattle.std.proofs.lemmas.Bool.{cases_lt}
use Rattle.std.proofs.lemmas.List.{drop-drop, drop-take, drop_at, length-append, length-drop, take-take, take_at}
use Rattle.std.proofs.lemmas.List.Elements.{All-nil}
use Rattle.std.proofs.lemmas.List.Sums.{sum_by-take-drop}
use Rattle.shred.specs.Columns.{Column}
use Rattle.shred.specs.Fits.{is_plain}
use Rattle.shred.specs.Parts.{cut_off}
use Rattle.parquet_pages.specs.Held.{AreLeft, Fills, IsMark}
use Rattle.page_cells.specs.Left.{HasValuesLeft}
use Rattle.page_cells.specs.Outcome.{FindsWhere}
use Rattle.parquet_pages.specs.Pages.{Leaf, highest, joined, no_cells}
use Rattle.page_cells.specs.Levels.{present}
use Rattle.parquet_pages.specs.Reading.{page_at, pages_at}
use Rattle.parquet_pages.specs.Views.{leaf_view}
use Rattle.parquet_pages.specs.declared.chunk.Mark.{Mark}
use Rattle.parquet_pages.specs.declared.reader.ColumnReader.{ColumnReader}
use Rattle.parquet_footer.specs.declared.fault.FileError.{FileError}
use Rattle.parquet_footer.specs.declared.fault.FileError.TheVariants as errors
use Rattle.parquet_footer.specs.declared.fault.FileFault.{FileFault}
use Rattle.parquet_pages.proofs.CodeChunks.{next_page, no_page_left, page_fits, with_column}
use Rattle.page_cells.proofs.Callers.{ok_step}
use Rattle.parquet_pages.proofs.HeldPages.{IsFull, both_full, page_full}
use Rattle.parquet_pages.proofs.HeldCells.{behind_each, behind_plain, cut_behind, same_column}

-- ---- cells that are passed

-- the highest levels of so many and of those behind them
counts_twice : (a b top : ℕ) (levels : List ℕ)
    → present top (take a levels) + present top (take b (drop a levels)) ≡ present top (take (a + b) levels)
counts_twice a b top levels =
    let is_top : ℕ → ℕ = λ level. cond (nat_eq level top) 1 0 in
    let few : a ≤ a + b = omega arith in
    let both : present top (take a (take (a + b) levels)) + present top (drop a (take (a + b) levels))
    ≡ present top (take (a + b) levels) =
    sum_by-take-drop is_top (take (a + b) levels) a in
    let first : present top (take a (take (a + b) levels)) ≡ present top (take a levels) =
    ap (present top) (take-take a (a + b) levels few) in
    let others : present top (drop a (take (a + b) levels)) ≡ present top (take b (drop a levels)) =
    ap (present top) (drop-take a b levels) in
    omega (arith, both, first, others)

-- Cells that are passed behind others are passed with them.
pub passed_twice : (a b top : ℕ) (c : Column) → cut_off b top (cut_off a top c) ≡ cut_off (a + b) top c
passed_twice a b top c =
    let levels = c.levels in
    let first = present top (take a levels) in
    let others = present top (take b (drop a levels)) in
    same_column (drop b (drop a levels)) (drop (a + b) levels) (drop others (drop first c.values))
    (drop (present top (take (a + b) levels)) c.values)
    (drop-drop b a levels)
    (drop-drop others first c.values ∙ ap (λ (n : ℕ). drop n c.values) (counts_twice a b top levels))

none_passed : (n top : ℕ) (c : Column) → c.levels ≡ [] → cut_off n top c ≡ c
none_passed n top c none =
    let levels : drop n c.levels ≡ c.levels = ap (λ (ls : List ℕ). drop n ls) none ∙ drop-nil {A = ℕ} n ∙ sym none in
    let values : drop (present top (take n c.levels)) c.values ≡ c.values =
    ap (λ (ls : List ℕ). drop (present top (take n ls)) c.values) none
    ∙ ap (λ (ls : List ℕ). drop (present top ls) c.values) (take-nil {A = ℕ} n) in
    same_column (drop n c.levels) c.levels (drop (present top (take n c.levels)) c.values) c.values levels values

-- Where none are left behind so many cells, no more are passed.
pub passed_all : (a b top : ℕ) (c : Column) → a ≤ b → (cut_off a top c).levels ≡ [] → cut_off b top c ≡ cut_off a top c
passed_all a b top c less none =
    let all : b ≡ a + (b - a) = omega arith in
    ap (λ (n : ℕ). cut_off n top c) all ∙ sym (passed_twice a (b - a) top c)
    ∙ none_passed (b - a) top (cut_off a top c) none

-- Where so many cells of the page at hand are gone, the column behind them is left.
pub left_behind : (l : Leaf) (old new : ColumnReader) (count : ℕ) (c : Column) (left : AreLeft l old c) → count ≤ old.count
    → new.leaf ≡ old.leaf → new.bytes.now ≡ old.bytes.now → new.place ≡ old.place → new.left ≡ old.left
    → new.count ≡ old.count - count → new.levels ≡ drop count old.levels
    → HasValuesLeft l.leaf_type new.values
    (drop (present (highest l) (take count left.here.levels)) left.here.values)
    → AreLeft l new (cut_off count (highest l) c)
left_behind l old new count c left less leaf bytes place more counted levels values =
    let held = left.held in
    let here = left.here in
    let top = highest l in
    let within : count ≤ length here.levels = omega (arith, less, held.counted) in
    record {
      here = cut_off count top here;
      behind = left.behind;
      parts = ap (cut_off count top) left.parts ∙ cut_behind top count here left.behind within held.value_each;
      held = record {
        leaf = ap leaf_view leaf ∙ held.leaf;
        counted = counted ∙ ap (λ (n : ℕ). n - count) held.counted ∙ sym (length-drop count here.levels);
        levels = levels ∙ ap (drop count) held.levels;
        values = values;
        value_each = behind_each top count here held.value_each;
        plain = behind_plain top count here held.plain;
      };
      most = left.most;
      few = rw bytes left.few;
      read = rw (bytes, place, more) left.read;
    }

-- So many cells of those that are wanted were passed, and so many are still to be passed.
pub record PassedSoFar (l : Leaf) (r : ColumnReader) (count wanted : ℕ) (c : Column) : Type 0 where
  pub few : wanted ≤ count
  pub left : AreLeft l r (cut_off (count - wanted) (highest l) c)

pub pass_begun : (l : Leaf) (r : ColumnReader) (count : ℕ) (c : Column) → AreLeft l r c → PassedSoFar l r count count c
pass_begun l r count c left =
    let none : count - count ≡ 0 = omega arith in
    record { few = omega arith; left = rw none left }

pub pass_goes_on : (l : Leaf) (r : ColumnReader) (count wanted cells left : ℕ) (c : Column) → wanted ≤ count
    → cells ≤ wanted → left ≡ wanted - cells
    → AreLeft l r (cut_off cells (highest l) (cut_off (count - wanted) (highest l) c)) → PassedSoFar l r count left c
pass_goes_on l r count wanted cells left c few less is behind =
    let all : (count - wanted) + cells ≡ count - left = omega (arith, few, less, is) in
    let same : cut_off cells (highest l) (cut_off (count - wanted) (highest l) c) ≡ cut_off (count - left) (highest l) c =
    passed_twice (count - wanted) cells (highest l) c ∙ ap (λ (n : ℕ). cut_off n (highest l) c) all in
    record { few = omega (arith, few, is); left = subst (AreLeft l r) same behind }

pub pass_done : (l : Leaf) (r : ColumnReader) (count wanted : ℕ) (c : Column) → wanted ≡ 0
    → PassedSoFar l r count wanted c → AreLeft l r (cut_off count (highest l) c)
pass_done l r count wanted c none k =
    let all : count - wanted ≡ count = omega (arith, none) in
    subst (λ (n : ℕ). AreLeft l r (cut_off n (highest l) c)) all k.left

pub pass_ends : (l : Leaf) (r : ColumnReader) (count wanted : ℕ) (c : Column)
    → AreLeft l r (cut_off (count - wanted) (highest l) c) → (cut_off (count - wanted) (highest l) c).levels ≡ []
    → AreLeft l r (cut_off count (highest l) c)
pass_ends l r count wanted c left none =
    let less : count - wanted ≤ count = omega arith in
    subst (AreLeft l r) (sym (passed_all (count - wanted) count (highest l) c less none)) left

-- A reader that can't be filled, or that gives no part, wants memory.
pub fill_fails : (l : Leaf) (c : Column) (e : FileError) (r : ColumnReader) → Fills l c (Err e) r → e ≡ errors.Memory
fill_fails l c errors.Memory r h = refl
fill_fails l c (errors.Fault fault) r h = absurd h

pub finds_fails : {X : Type 0} (Is : X → Type 0) (e : FileError) → FindsWhere Is (Err e) → e ≡ errors.Memory
finds_fails Is errors.Memory h = refl
finds_fails Is (errors.Fault fault) h = absurd h

-- ---- pages in front of others

with_none : (read : Result Column FileFault) → with_column no_cells read ≡ read
with_none (Ok c) = refl
with_none (Err e) = refl

joined_twice : (a b c : Column) → joined a (joined b c) ≡ joined (joined a b) c
joined_twice a b c =
    same_column (a.levels ++ (b.levels ++ c.levels)) ((a.levels ++ b.levels) ++ c.levels)
    (a.values ++ (b.values ++ c.values)) ((a.values ++ b.values) ++ c.values)
    (sym (append_assoc a.levels b.levels c.levels)) (sym (append_assoc a.values b.values c.values))

with_twice : (a b : Column) (read : Result Column FileFault)
    → with_column a (with_column b read) ≡ with_column (joined a b) read
with_twice a b (Ok c) = ap (λ (c : Column). Ok c) (joined_twice a b c)
with_twice a b (Err e) = refl

-- Of so many cells those from a place on are read by so many pages at most; the others are a column of their own.
pub record StandFrom (l : Leaf) (given : List ℕ) (most place left count : ℕ) (total : Result Column FileFault)
    : Type 0 where
  pub front : Column
  pub full : IsFull l front
  pub many : length front.levels + left ≡ count
  pub read : with_column front (pages_at most l given place left) ≡ total

pub stand_begun : (l : Leaf) (given : List ℕ) (most place count : ℕ)
    → StandFrom l given most place count count (pages_at most l given place count)
stand_begun l given most place count = record {
  front = no_cells;
  full = record { each = refl; plain = All-nil (λ v. is_plain v ≡ true) };
  many = omega arith;
  read = with_none (pages_at most l given place count);
}

pub stand_goes_on : (l : Leaf) (given : List ℕ) (most i place left next count : ℕ) (c : Column)
    (total : Result Column FileFault) → i < most → 0 < left → page_at l given place left ≡ Ok (c, next)
    → StandFrom l given (most - i) place left count total
    → StandFrom l given (most - (i + 1)) next (left - length c.levels) count total
stand_goes_on l given most i place left next count c total lt some h k =
    let few = page_fits l given place left c next h in
    let long = length-append k.front.levels c.levels in
    let many = k.many in
    let rest = pages_at (most - (i + 1)) l given next (left - length c.levels) in
    record {
      front = joined k.front c;
      full = both_full l k.front c k.full (page_full l given place left c next h);
      many = omega (arith, few.few, long, many);
      read = sym (with_twice k.front c rest)
          ∙ ap (with_column k.front) (sym (next_page l given most i place left next c lt some h)) ∙ k.read;
    }

-- ---- marks

-- A mark stands where some page begins that at most so many cells stand before.
pub record Marks (l : Leaf) (given : List ℕ) (count before : ℕ) (mark : Mark) (total : Result Column FileFault)
    : Type 0 where
  pub most : ℕ
  pub few : most ≤ length given
  pub stands : StandFrom l given most mark.place mark.left count total
  pub few_before : length stands.front.levels ≤ before

pub mark_begun : (l : Leaf) (given : List ℕ) (place count before : ℕ) (mark : Mark) → mark.place ≡ place
    → mark.left ≡ count → Marks l given count before mark (pages_at (length given) l given place count)
mark_begun l given place count before mark is_place is_left =
    rw (← is_place, ← is_left) (record {
      most = length given;
      few = omega arith;
      stands = record {
        front = no_cells;
        full = record { each = refl; plain = All-nil (λ v. is_plain v ≡ true) };
        many = omega arith;
        read = with_none (pages_at (length given) l given mark.place mark.left);
      };
      few_before = omega arith;
    })

pub mark_goes_on : (l : Leaf) (given : List ℕ) (count before most place left passed : ℕ) (mark next new : Mark)
    (total : Result Column FileFault) → most ≤ length given → next.place ≡ place → next.left ≡ left
    → passed ≡ count - left → (passed ≤ before → new ≡ next) → (before < passed → new ≡ mark)
    → StandFrom l given most place left count total → Marks l given count before mark total
    → Marks l given count before new total
mark_goes_on l given count before most place left passed mark next new total few is_place is_left is_passed later same
    here old = by_case (cases_lt before passed)
  where
    by_case : (before < passed) ⊎ (passed ≤ before) → Marks l given count before new total
    by_case (inl more) = subst (λ (m : Mark). Marks l given count before m total) (sym (same more)) old
    by_case (inr less) =
        let many = here.many in
        let stands : StandFrom l given most next.place next.left count total = rw (is_place, is_left) here in
        let front : length here.front.levels ≤ before = omega (arith, many, is_passed, less) in
        subst (λ (m : Mark). Marks l given count before m total) (sym (later less))
        (record {
          most = most;
          few = few;
          stands = record {
            front = here.front;
            full = here.full;
            many = rw is_left many;
            read = rw (is_place, is_left) here.read;
          };
          few_before = front;
        })

-- Where no page is left, all were read, and the mark stands in them.
pub mark_done : (l : Leaf) (given : List ℕ) (most place left count before : ℕ) (mark : Mark)
    (total : Result Column FileFault) → left ≡ 0 → StandFrom l given most place left count total
    → Marks l given count before mark total
    → (c : Column) × (total ≡ Ok c) × IsMark l given count before mark c
mark_done l given most place left count before mark total none here marks =
    let all : Column = joined here.front no_cells in
    let whole : total ≡ Ok all =
    sym here.read ∙ ap (with_column here.front) (no_page_left l given most place left none) in
    let front = marks.stands.front in
    let behind = ok_step (pages_at marks.most l given mark.place mark.left) (λ others. Ok (joined front others)) all
    (marks.stands.read ∙ whole) in (
      all,
      whole,
      record {
        front = front;
        behind = behind.0;
        parts = same (joined front behind.0) all behind.2;
        value_each = marks.stands.full.each;
        many = marks.stands.many;
        few_before = marks.few_before;
        most = marks.most;
        few = marks.few;
        read = behind.1;
      },
    )
  where
    same : (a b : Column) → ◌≡◌ {A = Result Column FileFault} (Ok a) (Ok b) → b ≡ a
    same a b e = cc

-- a chunk without values has no page
pub mark_none : (l : Leaf) (given : List ℕ) (before : ℕ) (mark : Mark) → mark.left ≡ 0
    → IsMark l given 0 before mark no_cells
unfolding pages_at
mark_none l given before mark none = record {
  front = no_cells;
  behind = no_cells;
  parts = refl;
  value_each = refl;
  many = omega (arith, none);
  few_before = omega arith;
  most = 0;
  few = omega arith;
  read = rw none refl;
}

-- ---- readers that stand at a mark

behind_front : (top : ℕ) (front behind : Column) → present top front.levels ≡ length front.values
    → cut_off (length front.levels) top (joined front behind) ≡ behind
behind_front top front behind each =
    let n = length front.levels in
    let levels = front.levels ++ behind.levels in
    same_column (drop n levels) behind.levels (drop (present top (take n levels)) (front.values ++ behind.values))
    behind.values (drop_at front.levels behind.levels n refl)
    (ap (λ (ls : List ℕ). drop (present top ls) (front.values ++ behind.values)) (take_at front.levels behind.levels n refl)
    ∙ drop_at front.values behind.values (present top front.levels) (sym each))

-- A reader that holds no cells, and stands at a mark, has what stands behind the mark left.
pub marked_left : (l : Leaf) (r : ColumnReader) (count before : ℕ) (mark : Mark) (c : Column)
    (is : IsMark l r.bytes.now count before mark c) → leaf_view r.leaf ≡ l → r.count ≡ 0 → r.levels ≡ []
    → HasValuesLeft l.leaf_type r.values [] → r.place ≡ mark.place → r.left ≡ mark.left
    → AreLeft l r (cut_off (count - mark.left) (highest l) c)
marked_left l r count before mark c is leaf none no_levels no_values place left =
    let n : count - mark.left ≡ length is.front.levels = omega (arith, is.many) in
    let rest : cut_off (count - mark.left) (highest l) c ≡ is.behind =
    ap (λ (m : ℕ). cut_off m (highest l) c) n ∙ ap (cut_off (length is.front.levels) (highest l)) is.parts
    ∙ behind_front (highest l) is.front is.behind is.value_each in
    record {
      here = no_cells;
      behind = is.behind;
      parts = rest;
      held = record {
        leaf = leaf;
        counted = none;
        levels = no_levels;
        values = no_values;
        value_each = refl;
        plain = All-nil (λ v. is_plain v ≡ true);
      };
      most = is.most;
      few = is.few;
      read = rw (place, left) is.read;
    }

-- And behind so many cells, at least those before the mark, once the others of them are passed.
pub tested_left : (l : Leaf) (r : ColumnReader) (given : List ℕ) (count passed before more : ℕ) (mark : Mark) (c : Column)
    → IsMark l given count passed mark c → before ≡ count - mark.left → more ≡ passed - before
    → AreLeft l r (cut_off more (highest l) (cut_off (count - mark.left) (highest l) c))
    → AreLeft l r (cut_off passed (highest l) c)
tested_left l r given count passed before more mark c is is_before is_more left =
    let all : (count - mark.left) + more ≡ passed = omega (arith, is.many, is.few_before, is_before, is_more) in
    subst (AreLeft l r)
    (passed_twice (count - mark.left) more (highest l) c ∙ ap (λ (n : ℕ). cut_off n (highest l) c) all) left
