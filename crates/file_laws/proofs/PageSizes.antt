-- A page that is read has no more values than are left, and takes a byte at least.
use Rattle.std.proofs.Common.{◌≡◌, ℕ, ◌<◌, ◌≤◌, ◌+◌, ◌-◌, ◌||◌, ltb, eqb, not, List, length, drop, Ok, ap, subst, arith}
use Rattle.std.specs.List.{list_all, list_any}
use Rattle.std.proofs.lemmas.Bool.{ltb-false, ltb-true, not-false, or_parts}
use Rattle.outcomes.specs.Results.{◌>>=◌, refused_as, refused_if}
use Rattle.row_assembly.specs.Columns.{Column}
use Rattle.parquet_footer.specs.declared.fault.FileFault.{FileFault}
use Rattle.parquet_footer.specs.declared.fault.FileFault.TheVariants.{BadOffset, CountMismatch, NotUtf8, SchemaMismatch, TooLarge}
use Rattle.parquet_footer.proofs.Callers.{bind_ok, ok_is}
use Rattle.parquet_pages.specs.Headers.{Header}
use Rattle.parquet_pages.specs.Pages.{IsPage, Leaf, has_levels, highest}
use Rattle.page_cells.specs.Texts.{is_proper, is_too_long}
use Rattle.parquet_pages.specs.Reading.{body_at, cells_at, column_in, has_mismatch, header_at, page_at, tested}
use Rattle.page_cells.specs.Outcome.{in_page}
use Rattle.file_laws.proofs.Steps.{let_through}
use Rattle.file_laws.proofs.Structs.{struct_takes}

tested_few : (l : Leaf) (left : ℕ) (c d : Column) (rest : List ℕ) → tested l left c rest ≡ Ok d → length d.levels ≤ left
unfolding tested
tested_few l left c d rest e =
    let many = not (eqb (length rest) 0) || ltb left (length c.levels) in
    let last = λ (texts : Unit {0}). refused_if (has_mismatch l c) SchemaMismatch >>= λ suits. Ok c in
    let third = λ (whole : Unit {0}). refused_if (not (list_all is_proper c.values)) NotUtf8 >>= last in
    let a = bind_ok (refused_if (list_any is_too_long c.values) TooLarge) (λ short. refused_if many CountMismatch >>= third) d e in
    let b = bind_ok (refused_if many CountMismatch) third d a.2 in
    let k = bind_ok (refused_if (not (list_all is_proper c.values)) NotUtf8) last d b.2 in
    let m = bind_ok (refused_if (has_mismatch l c) SchemaMismatch) (λ suits. Ok c) d k.2 in
    let few = ltb-false left (length c.levels) (or_parts (not (eqb (length rest) 0)) (ltb left (length c.levels)) (let_through many CountMismatch b.0 b.1)).1 in
    subst (λ (x : Column). length x.levels ≤ left) (ok_is {E = FileFault} c d m.2) few

-- the steps in which a page is read
pub record PageSteps (l : Leaf) (given : List ℕ) (place left : ℕ) : Type 0 where
  pub header : Header
  pub behind : List ℕ
  pub body : ℕ × List ℕ
  pub column : Column
  pub inside : place < length given
  pub begins : header_at (has_levels l) (drop place given) ≡ Ok (header, behind)
  pub reads : body_at header behind ≡ Ok body
  pub holds : column_in l left body.0 body.1 ≡ Ok column

-- the last of them gave the page's column
both_steps : (l : Leaf) (given : List ℕ) (place left next : ℕ) (c : Column) → page_at l given place left ≡ Ok (c, next) → (s : PageSteps l given place left) × (s.column ≡ c)
unfolding page_at
both_steps l given place left next c e =
    let from = drop place given in
    let end = λ (header : Header × List ℕ) (body : ℕ × List ℕ) (column : Column). Ok (column, length given - length header.1 + length body.1) in
    let third = λ (header : Header × List ℕ) (body : ℕ × List ℕ). column_in l left body.0 body.1 >>= end header body in
    let second = λ (header : Header × List ℕ). body_at header.0 header.1 >>= third header in
    let late = not (ltb place (length given)) in
    let a = bind_ok (refused_if late BadOffset) (λ begins. header_at (has_levels l) from >>= second) (c, next) e in
    let b = bind_ok (header_at (has_levels l) from) second (c, next) a.2 in
    let k = bind_ok (body_at b.0.0 b.0.1) (third b.0) (c, next) b.2 in
    let m = bind_ok (column_in l left k.0.0 k.0.1) (end b.0 k.0) (c, next) k.2 in
    let whole : (m.0, length given - length b.0.1 + length k.0.1) ≡ (c, next) = ok_is {E = FileFault} (m.0, length given - length b.0.1 + length k.0.1) (c, next) m.2 in (
      record {
        header = b.0.0;
        behind = b.0.1;
        body = k.0;
        column = m.0;
        inside = ltb-true place (length given) (not-false _ (let_through late BadOffset a.0 a.1));
        begins = b.1;
        reads = k.1;
        holds = m.1;
      },
      ap (λ (q : Column × ℕ). q.0) {x = (m.0, length given - length b.0.1 + length k.0.1)} {y = (c, next)} whole,
    )

pub page_steps : (l : Leaf) (given : List ℕ) (place left next : ℕ) (c : Column) → page_at l given place left ≡ Ok (c, next) → PageSteps l given place left
page_steps l given place left next c e = (both_steps l given place left next c e).0

pub page_few : (l : Leaf) (given : List ℕ) (place left next : ℕ) (c : Column) → page_at l given place left ≡ Ok (c, next) → length c.levels ≤ left
unfolding column_in
page_few l given place left next c e =
    let b = both_steps l given place left next c e in
    let s = b.0 in
    let n = bind_ok (refused_as in_page (cells_at l.leaf_type (highest l) s.body.0 s.body.1)) (λ cells. tested l left cells.0 cells.1) s.column s.holds in
    subst (λ (d : Column). length d.levels ≤ left) b.1 (tested_few l left n.0.0 s.column n.0.1 n.2)

pub page_takes : (l : Leaf) (given : List ℕ) (place next : ℕ) (c : Column) → IsPage l given place c next → place < next
page_takes l given place next c p = omega (arith, p.ends, struct_takes p.header p.tree p.spelled)
