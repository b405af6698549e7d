-- Reading one page after another, as a loop does.
use Rattle.std.proofs.Common.{◌≡◌, ℕ, zero, suc, ◌-◌, ◌+◌, ◌≤◌, ◌<◌, not, nat_lt, List, length, drop, Result, Ok, Err, refl, sym, ap, ◌∙◌, arith}
use Rattle.outcomes.specs.Outcome.{IsSaid}
use Rattle.outcomes.specs.Results.{◌>>=◌}
use Rattle.shred.specs.Columns.{Column}
use Rattle.parquet_pages.specs.Outcome.{says}
use Rattle.parquet_pages.specs.Pages.{Leaf, has_levels, highest, joined, no_cells}
use Rattle.parquet_pages.specs.Reading.{body_at, cells_at, column_in, header_at, page_at, pages_at, tested}
use Rattle.page_cells.specs.Outcome.{in_page}
use Rattle.parquet_footer.specs.declared.fault.FileError.{FileError}
use Rattle.parquet_footer.specs.declared.fault.FileError.TheVariants as errors
use Rattle.parquet_footer.specs.declared.fault.FileFault.{FileFault}
use Rattle.parquet_footer.specs.declared.fault.FileFault.TheVariants.{BadOffset}
use Rattle.parquet_pages.proofs.CodePages.{tested_passes}
use Rattle.page_cells.proofs.Callers.{fine_step, kept_step, ok_step}

-- ---- a page that was read

-- it has no more values than are left
pub record Fits (left : ℕ) (c : Column) : Type 0 where
  pub few : length c.levels ≤ left

column_fits : (l : Leaf) (left count : ℕ) (body : List ℕ) (c : Column) → column_in l left count body ≡ Ok c
    → Fits left c
unfolding column_in
column_fits l left count body c h =
    let cells = fine_step in_page (cells_at l.leaf_type (highest l) count body) (λ cells. tested l left cells.0 cells.1)
    c h in
    let p = tested_passes l left cells.0.0 cells.0.1 c cells.2 in
    rw (sym p.same) (record { few = p.few })

-- a column, and the place behind it
abbrev ended : (behind : ℕ) → Result Column FileFault → Result (Column × ℕ) FileFault
ended behind read = read >>= λ column. Ok (column, behind)

column_told : (l : Leaf) (left count : ℕ) (body : List ℕ) (c : Column) (behind next : ℕ)
    → ended behind (column_in l left count body) ≡ Ok (c, next)
    → column_in l left count body ≡ Ok c
column_told l left count body c behind next h = by_read (column_in l left count body) h
  where
    by_read : (read : Result Column FileFault) → ended behind read ≡ Ok (c, next) → read ≡ Ok c
    by_read (Ok column) h =
        let parts : ◌≡◌ {A = Column × ℕ} (column, behind) (c, next) = cc in
        ap (λ (p : Column × ℕ). Ok p.0) parts
    by_read (Err e) h = absurd cc

-- the body that a page was read from
pub page_body : (l : Leaf) (given : List ℕ) (place left : ℕ) (c : Column) (next : ℕ)
    → page_at l given place left ≡ Ok (c, next)
    → (body : ℕ × List ℕ) × (column_in l left body.0 body.1 ≡ Ok c)
unfolding page_at
page_body l given place left c next h =
    let begins = kept_step (not (nat_lt place (length given))) BadOffset _ (c, next) h in
    let header = ok_step (header_at (has_levels l) (drop place given))
    (λ header. body_at header.0 header.1 >>= λ body. column_in l left body.0 body.1
    >>= λ column. Ok (column, length given - length header.1 + length body.1)) (c, next) begins.1 in
    let body = ok_step (body_at header.0.0 header.0.1)
    (λ body. column_in l left body.0 body.1
    >>= λ column. Ok (column, length given - length header.0.1 + length body.1)) (c, next) header.2 in
    let ends = length given - length header.0.1 + length body.0.1 in
    (body.0, column_told l left body.0.0 body.0.1 c ends next body.2)

pub page_fits : (l : Leaf) (given : List ℕ) (place left : ℕ) (c : Column) (next : ℕ)
    → page_at l given place left ≡ Ok (c, next) → Fits left c
page_fits l given place left c next h =
    let body = page_body l given place left c next h in
    column_fits l left body.0.0 body.0.1 c body.1

-- ---- one page and those behind it

-- a column, with what is read behind it
abbrev pub with_column : Column → Result Column FileFault → Result Column FileFault
with_column old read = read >>= λ c. Ok (joined old c)

-- the pages from a page on
pub next_page : (l : Leaf) (given : List ℕ) (most i place left next : ℕ) (c : Column) → i < most → 0 < left
    → page_at l given place left ≡ Ok (c, next)
    → pages_at (most - i) l given place left ≡ with_column c
    (pages_at (most - (i + 1)) l given next (left - length c.levels))
unfolding pages_at
next_page l given most i place zero next c lt some h = absurd (omega arith)
next_page l given most i place (suc left) next c lt some h =
    let k : most - i ≡ suc (most - (i + 1)) = omega arith in
    rw (k, h) refl

pub no_page_left : (l : Leaf) (given : List ℕ) (most place left : ℕ) → left ≡ 0
    → pages_at most l given place left ≡ Ok no_cells
unfolding pages_at
no_page_left l given most place left none = rw none refl

page_fails : (l : Leaf) (given : List ℕ) (most i place left : ℕ) (fault : FileFault) → i < most → 0 < left
    → page_at l given place left ≡ Err fault → pages_at (most - i) l given place left ≡ Err fault
unfolding pages_at
page_fails l given most i place zero fault lt some h = absurd (omega arith)
page_fails l given most i place (suc left) fault lt some h =
    let k : most - i ≡ suc (most - (i + 1)) = omega arith in
    rw (k, h) refl

pages_run_out : (l : Leaf) (given : List ℕ) (most i place left : ℕ) → most ≤ i → 0 < left
    → pages_at (most - i) l given place left ≡ Err BadOffset
unfolding pages_at
pages_run_out l given most i place zero le some = absurd (omega arith)
pages_run_out l given most i place (suc left) le some =
    let k : most - i ≡ 0 = omega arith in
    rw k refl

-- ---- pages that are tested

-- a reading without what it gives
abbrev pub unkept : Result Column FileFault → Result (Unit {0}) FileFault
unkept read = read >>= λ c. Ok tt

unkept_twice : (c : Column) (read : Result Column FileFault) → unkept (with_column c read) ≡ unkept read
unkept_twice c (Ok others) = refl
unkept_twice c (Err e) = refl

unkept_refused : (fault : FileFault) (read : Result Column FileFault) → unkept (Err fault) ≡ unkept read
    → read ≡ Err fault
unkept_refused fault (Ok c) h = absurd cc
unkept_refused fault (Err e) h = cc

pub test_goes_on : (l : Leaf) (given : List ℕ) (most i place left next : ℕ) (c : Column)
    (total : Result (Unit {0}) FileFault) → i < most → 0 < left → page_at l given place left ≡ Ok (c, next)
    → unkept (pages_at (most - i) l given place left) ≡ total
    → unkept (pages_at (most - (i + 1)) l given next (left - length c.levels)) ≡ total
test_goes_on l given most i place left next c total lt some h so_far =
    sym (unkept_twice c (pages_at (most - (i + 1)) l given next (left - length c.levels)))
    ∙ ap unkept (sym (next_page l given most i place left next c lt some h)) ∙ so_far

pub test_ends : (l : Leaf) (given : List ℕ) (e : FileError) (most i place left : ℕ) (read : Result Column FileFault)
    → i < most → 0 < left → IsSaid (says e) (page_at l given place left)
    → unkept (pages_at (most - i) l given place left) ≡ unkept read → IsSaid (says e) read
test_ends l given errors.Memory most i place left read lt some h so_far = tt
test_ends l given (errors.Fault fault) most i place left read lt some h so_far =
    unkept_refused fault read (ap unkept (sym (page_fails l given most i place left fault lt some h)) ∙ so_far)

pub test_done : (l : Leaf) (given : List ℕ) (most place left : ℕ) (read : Result Column FileFault) → left ≡ 0
    → unkept (pages_at most l given place left) ≡ unkept read → (c : Column) × (read ≡ Ok c) × Unit {0}
test_done l given most place left read none so_far =
    by_read read (ap unkept (sym (no_page_left l given most place left none)) ∙ so_far)
  where
    by_read : (read : Result Column FileFault) → unkept (Ok no_cells) ≡ unkept read
        → (c : Column) × (read ≡ Ok c) × Unit {0}
    by_read (Ok c) h = (c, refl, tt)
    by_read (Err e) h = absurd cc

pub test_missing : (l : Leaf) (given : List ℕ) (most i place left : ℕ) (read : Result Column FileFault) → most ≤ i
    → 0 < left → unkept (pages_at (most - i) l given place left) ≡ unkept read → read ≡ Err BadOffset
test_missing l given most i place left read le some so_far =
    unkept_refused BadOffset read (ap unkept (sym (pages_run_out l given most i place left le some)) ∙ so_far)
