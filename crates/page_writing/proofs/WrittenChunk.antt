-- The pages of a column, written one behind the other.
use Rattle.std.proofs.lemmas.Bool.{eqb-true, ne_eqb}
use Rattle.std.proofs.Common.{◌≡◌, ℕ, zero, suc, ◌-◌, ◌<◌, ◌≤◌, eqb, Bool, true, false, List, [], ◌++◌, length, Result, Ok, Err, refl, sym, ap, ◌∙◌, arith, append_assoc, append-nil}
use Rattle.std.proofs.lemmas.List.{length-drop}
use Rattle.outcomes.specs.Results.{◌>>=◌}
use Rattle.shred.specs.Columns.{Column}
use Rattle.page_writing.specs.Outcome.{Writes}
use Rattle.page_writing.specs.Writing.{first_page, other_pages, page_written, pages_written, chunk_written}
use Rattle.parquet_footer.specs.declared.fault.FileError.{FileError}
use Rattle.parquet_footer.specs.declared.fault.FileError.TheVariants.{Memory, Fault}
use Rattle.parquet_footer.specs.declared.fault.FileFault.{FileFault}
use Rattle.page_cells.specs.declared.types.LeafType.{LeafType}

abbrev pub Written : Type 0
Written = Result (List ℕ) FileFault

-- these bytes in front of what is written
abbrev pub behind_bytes : List ℕ → Written → Written
behind_bytes front written = written >>= λ others. Ok (front ++ others)

-- what is left of a column, where a front of its pages was written
pub record LeftToWrite (type : LeafType) (top : ℕ) (c : Column) (old new : List ℕ) (left : Column) : Type 0 where
  pub most : ℕ
  pub enough : length left.levels ≤ most
  pub front : List ℕ
  pub added : new ≡ old ++ front
  pub writes : behind_bytes front (pages_written most type top left) ≡ chunk_written type top c

same_written : (written : Written) → behind_bytes [] written ≡ written
same_written (Ok bytes) = refl
same_written (Err fault) = refl

pub nothing_written : (type : LeafType) (top : ℕ) (c : Column) (old : List ℕ) → LeftToWrite type top c old old c
nothing_written type top c old = record {
  most = length c.levels;
  enough = omega arith;
  front = [];
  added = sym (append-nil old);
  writes = same_written (chunk_written type top c);
}

no_more : (most : ℕ) (type : LeafType) (top : ℕ) (c : Column) → length c.levels ≡ 0
    → pages_written most type top c ≡ Ok []
unfolding pages_written
no_more zero type top c none = refl
no_more (suc most) type top c none = rw none refl

-- all pages were written
pub all_written : (type : LeafType) (top : ℕ) (c : Column) (old new : List ℕ) (left : Column) → length left.levels ≡ 0
    → LeftToWrite type top c old new left → Writes (chunk_written type top c) old (Ok tt) new
all_written type top c old new left none l = (
  l.front,
  sym l.writes ∙ ap (behind_bytes l.front) (no_more l.most type top left none)
      ∙ ap (λ (t : List ℕ). Ok t) (append-nil l.front),
  l.added,
)

-- the next page, and those behind it
abbrev pub with_page : (most : ℕ) (type : LeafType) (top : ℕ) → Column → Written → Written
with_page most type top left page =
    page >>= λ first. behind_bytes first (pages_written most type top (other_pages top left))

pub next_page : (most : ℕ) (type : LeafType) (top : ℕ) (left : Column) → 0 < length left.levels
    → length left.levels ≤ most
    → pages_written most type top left
    ≡ with_page (most - 1) type top left (page_written type top (first_page top left))
unfolding pages_written
next_page zero type top left some enough = absurd (omega arith)
next_page (suc most) type top left some enough =
    let one : suc most - 1 ≡ most = omega arith in
    let not_none : eqb (length left.levels) 0 ≡ false = ne_eqb (length left.levels) 0 (λ e. absurd (omega arith)) in
    rw (one, not_none) refl

regroup : (front first : List ℕ) (written : Written)
    → behind_bytes front (behind_bytes first written) ≡ behind_bytes (front ++ first) written
regroup front first (Ok others) = ap (λ (t : List ℕ). Ok t) (sym (append_assoc front first others))
regroup front first (Err fault) = refl

-- one more page was written
pub page_more : (type : LeafType) (top : ℕ) (c : Column) (old new : List ℕ) (left page others : Column) (more : List ℕ)
    → 0 < length left.levels → page ≡ first_page top left → others ≡ other_pages top left
    → Writes (page_written type top page) new (Ok tt) more
    → LeftToWrite type top c old new left → LeftToWrite type top c old more others
page_more type top c old new left page others more some page_is others_is written l =
    let left_is = next_page l.most type top left some l.enough in
    record {
      most = l.most - 1;
      enough = rw others_is (omega (arith, length-drop 4096 left.levels, l.enough));
      front = l.front ++ written.0;
      added = written.2 ∙ ap (λ (t : List ℕ). t ++ written.0) l.added ∙ append_assoc old l.front written.0;
      writes = ap (λ (o : Column). behind_bytes (l.front ++ written.0) (pages_written (l.most - 1) type top o))
          others_is
          ∙ sym (regroup l.front written.0 (pages_written (l.most - 1) type top (other_pages top left)))
          ∙ ap (λ (w : Written). behind_bytes l.front (with_page (l.most - 1) type top left w))
          (sym written.1 ∙ ap (page_written type top) page_is)
          ∙ ap (behind_bytes l.front) (sym left_is) ∙ l.writes;
    }

-- where the next page isn't written, the column isn't
pub page_refused : (type : LeafType) (top : ℕ) (c : Column) (old new more : List ℕ) (left page : Column)
    (error : FileError) → 0 < length left.levels → page ≡ first_page top left
    → Writes (page_written type top page) new (Err error) more
    → LeftToWrite type top c old new left → Writes (chunk_written type top c) old (Err error) more
page_refused type top c old new more left page Memory some page_is written l = tt
page_refused type top c old new more left page (Fault fault) some page_is written l =
    sym l.writes
    ∙ ap (behind_bytes l.front) (next_page l.most type top left some l.enough
    ∙ ap (with_page (l.most - 1) type top left) (ap (page_written type top) (sym page_is) ∙ written))

-- ---- whether levels are left

pub some_left : (n : ℕ) (empty : Bool) → empty ≡ eqb n 0 → empty ≡ false → 0 < n
some_left zero empty is not_empty = absurd cc
some_left (suc n) empty is not_empty = omega arith

pub none_left : (n : ℕ) (empty : Bool) → empty ≡ eqb n 0 → empty ≡ true → n ≡ 0
none_left zero empty is all = refl
none_left (suc n) empty is all = eqb-true (suc n) 0 (sym is ∙ all)
