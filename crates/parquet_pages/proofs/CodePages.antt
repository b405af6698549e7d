-- Reading a page and one page after another, as the code does.
use Rattle.std.proofs.Common.{◌≡◌, ℕ, ◌≤◌, Bool, true, false, not, ◌||◌, eqb, ltb, List, [], ◌∷◌, length, take, Result, Ok, Err, refl, sym, arith}
use Rattle.std.proofs.lemmas.Bool.{le-ltb, eq-eqb, ne_eqb, ltb-false}
use Rattle.std.specs.List.{list_all, list_any}
use Rattle.outcomes.specs.Results.{◌>>=◌}
use Rattle.lake_bytes.specs.declared.fault.ByteFault.{ByteFault}
use Rattle.row_core.specs.Rows.{Value}
use Rattle.shred.specs.Columns.{Column}
use Rattle.parquet_pages.specs.Headers.{Header}
use Rattle.page_cells.specs.Levels.{levels_at, present}
use Rattle.parquet_pages.specs.Pages.{Leaf, highest}
use Rattle.page_cells.specs.Texts.{is_proper, is_too_long}
use Rattle.page_cells.specs.Plain.{plain_at}
use Rattle.parquet_pages.specs.Reading.{DataPage, body_at, cells_at, column_in, data_page_in, has_mismatch, tested, num_values_in, encoding_fault, unless_fault}
use Rattle.page_cells.specs.Outcome.{in_page}
use Rattle.parquet_footer.specs.declared.fault.FileFault.{FileFault}
use Rattle.parquet_footer.specs.declared.fault.FileFault.TheVariants.{CountMismatch, NotUtf8, SchemaMismatch, TooLarge}
use Rattle.page_cells.proofs.Callers.{kept_step}

-- ---- the body of a page

-- what a data page says, where it has so many values
pub data_page_there : (header : Header) (count : ℕ) → num_values_in header ≡ Ok count
    → (page : DataPage) × (data_page_in header ≡ Ok page) × (page.num_values ≡ count)
data_page_there header count h = by_page (data_page_in header) refl h
  where
    by_page : (read : Result DataPage FileFault) → data_page_in header ≡ read
        → (read >>= λ page. Ok page.num_values) ≡ Ok count
        → (page : DataPage) × (data_page_in header ≡ Ok page) × (page.num_values ≡ count)
    by_page (Ok page) is h = (page, is, cc)
    by_page (Err fault) is h = absurd cc

pub body_there : (header : Header) (behind : List ℕ) (page : DataPage) → data_page_in header ≡ Ok page
    → header.compressed_page_size ≤ length behind → header.uncompressed_page_size ≡ header.compressed_page_size
    → body_at header behind ≡ unless_fault (encoding_fault page.encoding page.level_encoding)
    (page.num_values, take header.compressed_page_size behind)
unfolding body_at
body_there header behind page is fits same =
    rw (
      is,
      le-ltb (length behind) header.compressed_page_size fits,
      eq-eqb header.uncompressed_page_size
          header.compressed_page_size same,
    ) refl

-- ---- what the body holds

pub levels_fail : (l : Leaf) (left count : ℕ) (body : List ℕ) (fault : ByteFault)
    → levels_at (highest l) count body ≡ Err fault → column_in l left count body ≡ Err (in_page fault)
unfolding column_in cells_at
levels_fail l left count body fault h = rw h refl

pub values_fail : (l : Leaf) (left count : ℕ) (body levels behind : List ℕ) (fault : ByteFault)
    → levels_at (highest l) count body ≡ Ok (levels, behind)
    → plain_at l.leaf_type (present (highest l) levels) behind ≡ Err fault
    → column_in l left count body ≡ Err (in_page fault)
unfolding column_in cells_at
values_fail l left count body levels behind fault h k = rw (h, k) refl

pub cells_there : (l : Leaf) (left count : ℕ) (body levels behind rest : List ℕ) (values : List Value)
    → levels_at (highest l) count body ≡ Ok (levels, behind)
    → plain_at l.leaf_type (present (highest l) levels) behind ≡ Ok (values, rest)
    → column_in l left count body ≡ tested l left (record { levels = levels; values = values }) rest
unfolding column_in cells_at
cells_there l left count body levels behind rest values h k = rw (h, k) refl

-- ---- the tests

pub tested_long : (l : Leaf) (left : ℕ) (c : Column) (behind : List ℕ) → true ≡ list_any is_too_long c.values
    → tested l left c behind ≡ Err TooLarge
unfolding tested
tested_long l left c behind h = rw (sym h) refl

pub tested_count : (l : Leaf) (left : ℕ) (c : Column) (behind : List ℕ) → false ≡ list_any is_too_long c.values
    → (not (eqb (length behind) 0) || ltb left (length c.levels)) ≡ true → tested l left c behind ≡ Err CountMismatch
unfolding tested
tested_count l left c behind h k = rw (sym h, k) refl

pub tested_texts : (l : Leaf) (left : ℕ) (c : Column) (behind : List ℕ) → false ≡ list_any is_too_long c.values
    → (not (eqb (length behind) 0) || ltb left (length c.levels)) ≡ false → list_all is_proper c.values ≡ false
    → tested l left c behind ≡ Err NotUtf8
unfolding tested
tested_texts l left c behind h k m = rw (sym h, k, m) refl

pub tested_mismatch : (l : Leaf) (left : ℕ) (c : Column) (behind : List ℕ) → false ≡ list_any is_too_long c.values
    → (not (eqb (length behind) 0) || ltb left (length c.levels)) ≡ false → list_all is_proper c.values ≡ true
    → has_mismatch l c ≡ true → tested l left c behind ≡ Err SchemaMismatch
unfolding tested
tested_mismatch l left c behind h k m n = rw (sym h, k, m, n) refl

pub tested_fine : (l : Leaf) (left : ℕ) (c : Column) (behind : List ℕ) → false ≡ list_any is_too_long c.values
    → (not (eqb (length behind) 0) || ltb left (length c.levels)) ≡ false → list_all is_proper c.values ≡ true
    → has_mismatch l c ≡ false → tested l left c behind ≡ Ok c
unfolding tested
tested_fine l left c behind h k m n = rw (sym h, k, m, n) refl

-- what passed the tests
pub record Passed (left : ℕ) (c : Column) (behind : List ℕ) (given : Column) : Type 0 where
  pub same : c ≡ given
  pub ends : behind ≡ []
  pub few : length c.levels ≤ left

ends_of : (behind : List ℕ) (b : Bool) → (not (eqb (length behind) 0) || b) ≡ false → (behind ≡ []) × (b ≡ false)
ends_of [] b h = (refl, h)
ends_of (x ∷ xs) b h = absurd (let no = ne_eqb (length (x ∷ xs)) 0 (omega arith) in let e : true ≡ false =
    rw no at h in cc)

pub tested_passes : (l : Leaf) (left : ℕ) (c : Column) (behind : List ℕ) (given : Column)
    → tested l left c behind ≡ Ok given → Passed left c behind given
unfolding tested
tested_passes l left c behind given h =
    let short = kept_step (list_any is_too_long c.values) TooLarge _ given h in
    let whole = kept_step (not (eqb (length behind) 0) || ltb left (length c.levels)) CountMismatch _ given short.1 in
    let texts = kept_step (not (list_all is_proper c.values)) NotUtf8 _ given whole.1 in
    let suits = kept_step (has_mismatch l c) SchemaMismatch _ given texts.1 in
    let e = ends_of behind (ltb left (length c.levels)) whole.0 in
    record {
      same = same_value c given suits.1;
      ends = e.0;
      few = ltb-false left (length c.levels) e.1;
    }
  where
    same_value : (a b : Column) → ◌≡◌ {A = Result Column FileFault} (Ok a) (Ok b) → a ≡ b
    same_value a b e = cc
