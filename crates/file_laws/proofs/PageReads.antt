-- What the steps of a reading gave, where a file's rows are read: of a page, its header, and its levels and values.
use Rattle.std.proofs.Common.{◌≡◌, ℕ, zero, suc, ◌<◌, ◌≤◌, ◌-◌, ◌||◌, ltb, eqb, not, true, false, ℤ, pos, List, ◌++◌, length, take, drop, Ok, refl, sym, ap, subst, ◌∙◌, arith}
use Rattle.std.specs.List.{list_all, list_any}
use Rattle.std.proofs.lemmas.Bool.{cond-false, eqb-true, ne_eqb, ltb-false, not-false, or_parts}
use Rattle.std.proofs.lemmas.List.{take_at}
use Rattle.outcomes.specs.Results.{◌>>=◌, refused_as, refused_if}
use Rattle.thrift_core.proofs.Callers.{struct_at_again}
use Rattle.row_core.specs.Conforms.{is_leaf_value}
use Rattle.row_core.specs.Rows.{Row}
use Rattle.schema_tree.specs.Tree.{Tree}
use Rattle.row_assembly.specs.Columns.{Column}
use Rattle.parquet_footer.specs.declared.fault.FileFault.{FileFault}
use Rattle.parquet_footer.specs.declared.fault.FileFault.TheVariants.{CountMismatch, NotUtf8, SchemaMismatch, TooLarge}
use Rattle.parquet_footer.proofs.Callers.{bind_ok, ok_is}
use Rattle.parquet_pages.specs.Headers.{Content, Header, data_page}
use Rattle.parquet_pages.specs.Pages.{Leaf, has_levels, joined, no_cells, plain_header}
use Rattle.page_cells.specs.Levels.{may_stand}
use Rattle.page_cells.specs.Texts.{is_proper, is_too_long}
use Rattle.parquet_pages.specs.Reading.{body_at, cells_at, chunk_at, column_in, first_place, has_mismatch, header_at, page_at, pages_at, tested}
use Rattle.page_cells.specs.Outcome.{in_page}
use Rattle.page_cells.specs.Types.{primitive_of}
use Rattle.parquet_pages.proofs.HeaderFound.{body_found, header_told}
use Rattle.parquet_pages.proofs.PagesOnly.{page_only}
use Rattle.parquet_file.specs.File.{leaf_of}
use Rattle.parquet_file.specs.Reading.{rows_at}
use Rattle.file_laws.proofs.PageSizes.{PageSteps, page_steps}
use Rattle.file_laws.proofs.Chunks.{first_is}
use Rattle.file_laws.proofs.ReadSteps.{chunk_read}
use Rattle.file_laws.specs.Places.{HasBody, HasHeader, HasPageCells, IsReached, MeetsPage, PagePlace, at_first, behind_page}
use Rattle.file_laws.proofs.Steps.{let_through, told_ok}

-- ---- pages

-- Pages are read from a place on.
record IsReadFrom (l : Leaf) (given : List ℕ) (place left : ℕ) : Type 0 where
  most : ℕ
  column : Column
  reads : pages_at most l given place left ≡ Ok column

-- the first of them, where a value is left
record IsReadFirst (l : Leaf) (given : List ℕ) (place left : ℕ) : Type 0 where
  page : Column × ℕ
  first : page_at l given place left ≡ Ok page
  behind : IsReadFrom l given page.1 (left - length page.0.levels)

first_read : (l : Leaf) (given : List ℕ) (place left : ℕ) → 0 < left → IsReadFrom l given place left → IsReadFirst l given place left
unfolding pages_at
first_read l given place left some r = by_tries r.most left some r.reads
  where
    by_tries : (most left : ℕ) → 0 < left → pages_at most l given place left ≡ Ok r.column → IsReadFirst l given place left
    by_tries most zero some e = absurd (omega (arith, some))
    by_tries zero (suc left) some e = absurd cc
    by_tries (suc most) (suc left) some e =
        let a = bind_ok (page_at l given place (suc left)) (λ page. pages_at most l given page.1 (suc left - length page.0.levels) >>= λ others. Ok (joined page.0 others)) r.column e in
        let b = bind_ok (pages_at most l given a.0.1 (suc left - length a.0.0.levels)) (λ others. Ok (joined a.0.0 others)) r.column a.2 in
        record { page = a.0; first = a.1; behind = record { most = most; column = b.0; reads = b.1 } }

reached_read : (l : Leaf) (given : List ℕ) (first all place left : ℕ) → IsReadFrom l given first all → IsReached l given first all place left → 0 < left → IsReadFrom l given place left
reached_read l given first all place left r at_first some = r
reached_read l given first all place left r (behind_page before had next c reached is suits few) some =
    let from = reached_read l given first all before had r reached (omega (arith, some)) in
    let one = first_read l given before had (omega (arith, some)) from in
    let same : one.page ≡ (c, next) = ok_is {E = FileFault} one.page (c, next) (sym one.first ∙ page_only l given before had next c is suits few) in
    subst (λ (q : Column × ℕ). IsReadFrom l given q.1 (had - length q.0.levels)) {x = one.page} {y = (c, next)} same one.behind

reached_few : (l : Leaf) (given : List ℕ) (first all place left : ℕ) → IsReached l given first all place left → left ≤ all
reached_few l given first all place left at_first = omega arith
reached_few l given first all place left (behind_page before had next c reached is suits few) = omega (arith, reached_few l given first all before had reached)

-- the pages of a chunk that is read
from_chunk : (l : Leaf) (given : List ℕ) (stated : ℤ) (first n : ℕ) (c : Column) → stated ≡ pos first → 0 < n → chunk_at l given stated n ≡ Ok c → IsReadFrom l given first n
unfolding chunk_at
from_chunk l given stated first n c is some e =
    let read = λ (place : ℕ). pages_at (length given) l given place n in
    let b = bind_ok (first_place stated) read c (sym (cond-false (eqb n 0) (Ok no_cells) (first_place stated >>= read) (ne_eqb n 0 (λ none. absurd (omega (arith, some, none))))) ∙ e) in
    let same : b.0 ≡ first = same_number b.0 first (sym (first_is stated b.0 b.1).0 ∙ is) in
    record { most = length given; column = c; reads = ap read (sym same) ∙ b.2 }
  where
    same_number : (n m : ℕ) → pos n ≡ pos m → n ≡ m
    same_number n m e = cc

-- A page that is looked for is read, where the file's rows are.
pub page_read : (bytes : List ℕ) (t : Tree) (p : PagePlace) (rows : List Row) → rows_at bytes t ≡ Ok rows → MeetsPage bytes t p → PageSteps (leaf_of p.leaf) p.given p.place p.left
page_read bytes t p rows e m =
    let l = leaf_of p.leaf in
    let k = chunk_read bytes t p.given m.group p.leaf m.chunk rows e m.has in
    let some : 0 < m.chunk.num_values = omega (arith, m.wanted, reached_few l p.given m.first m.chunk.num_values p.place p.left m.reached) in
    let from = from_chunk l p.given m.chunk.data_page_offset m.first m.chunk.num_values k.column m.stated some k.reads in
    let one = first_read l p.given p.place p.left m.wanted (reached_read l p.given m.first m.chunk.num_values p.place p.left from m.reached m.wanted) in
    page_steps l p.given p.place p.left one.page.1 one.page.0 one.first

-- ---- its header and body

-- the body behind a header, and what is read of it
pub record IsBodyRead (p : PagePlace) (header : Header) (behind : List ℕ) : Type 0 where
  pub body : ℕ × List ℕ
  pub reads : body_at header behind ≡ Ok body
  pub column : Column
  pub holds : column_in (leaf_of p.leaf) p.left body.0 body.1 ≡ Ok column
  pub plain : header ≡ plain_header (leaf_of p.leaf) body.0 (length body.1)
  pub after : List ℕ
  pub parts : behind ≡ body.1 ++ after

pub header_read : (bytes : List ℕ) (t : Tree) (p : PagePlace) (header : Header) (behind : List ℕ) (rows : List Row) → rows_at bytes t ≡ Ok rows → HasHeader bytes t p header behind
    → IsBodyRead p header behind
unfolding header_at
header_read bytes t p header behind rows e h =
    let s = page_read bytes t p rows e h.met in
    let here : header_at (has_levels (leaf_of p.leaf)) (drop p.place p.given) ≡ Ok (header, behind) =
    rw (h.begins.parts, struct_at_again h.begins.front h.tree behind h.begins.spelled, h.says) refl in
    let same : (s.header, s.behind) ≡ (header, behind) = ok_is {E = FileFault} (s.header, s.behind) (header, behind) (sym s.begins ∙ here) in
    let reads : body_at header behind ≡ Ok s.body = ap (λ (q : Header × List ℕ). body_at q.0 q.1) {x = (header, behind)} {y = (s.header, s.behind)} (sym same) ∙ s.reads in
    let found = body_found (leaf_of p.leaf) header behind s.body.0 s.body.1 (header_told (has_levels (leaf_of p.leaf)) h.tree header h.says) reads in
    record { body = s.body; reads = reads; column = s.column; holds = s.holds; plain = found.is; after = found.rest; parts = found.split }

-- ---- its levels and values

-- what is read of the levels and the values of a data page, and what their tests let through
pub record AreTested (p : PagePlace) (c : Column) (rest : List ℕ) : Type 0 where
  pub short : list_any is_too_long c.values ≡ false
  pub whole : length rest ≡ 0
  pub few : length c.levels ≤ p.left
  pub texts : list_all is_proper c.values ≡ true
  pub nulls : list_all (may_stand p.leaf.nullable) c.levels ≡ true
  pub in_range : list_all (is_leaf_value (primitive_of p.leaf.leaf_type)) c.values ≡ true

tests_passed : (p : PagePlace) (c d : Column) (rest : List ℕ) → tested (leaf_of p.leaf) p.left c rest ≡ Ok d → AreTested p c rest
unfolding tested
tests_passed p c d rest e =
    let l = leaf_of p.leaf in
    let many = not (eqb (length rest) 0) || ltb p.left (length c.levels) in
    let last = λ (texts : Unit {0}). refused_if (has_mismatch l c) SchemaMismatch >>= λ suits. Ok c in
    let third = λ (whole : Unit {0}). refused_if (not (list_all is_proper c.values)) NotUtf8 >>= last in
    let a = bind_ok (refused_if (list_any is_too_long c.values) TooLarge) (λ short. refused_if many CountMismatch >>= third) d e in
    let b = bind_ok (refused_if many CountMismatch) third d a.2 in
    let k = bind_ok (refused_if (not (list_all is_proper c.values)) NotUtf8) last d b.2 in
    let m = bind_ok (refused_if (has_mismatch l c) SchemaMismatch) (λ suits. Ok c) d k.2 in
    let w = or_parts (not (eqb (length rest) 0)) (ltb p.left (length c.levels)) (let_through many CountMismatch b.0 b.1) in
    let s = or_parts (not (list_all (may_stand l.nullable) c.levels)) (not (list_all (is_leaf_value (primitive_of l.leaf_type)) c.values)) (let_through (has_mismatch l c) SchemaMismatch m.0 m.1) in
    record {
      short = let_through (list_any is_too_long c.values) TooLarge a.0 a.1;
      whole = eqb-true (length rest) 0 (not-false _ w.0);
      few = ltb-false p.left (length c.levels) w.1;
      texts = not-false _ (let_through (not (list_all is_proper c.values)) NotUtf8 k.0 k.1);
      nulls = not-false _ s.0;
      in_range = not-false _ s.1;
    }

abbrev count_in : Content → ℕ
count_in (data_page count encoding level_encoding) = count
count_in _ = 0

-- one front of the bytes is so long
one_front : (front other after rest : List ℕ) → length front ≡ length other → front ++ after ≡ other ++ rest → front ≡ other
one_front front other after rest long same =
    sym (take_at front after (length other) long) ∙ ap (take (length other)) same ∙ take_at other rest (length other) refl

-- what is read of the body of a page
pub cells_read : (bytes : List ℕ) (t : Tree) (p : PagePlace) (count : ℕ) (body : List ℕ) (rows : List Row) → HasBody bytes t p count body → rows_at bytes t ≡ Ok rows
    → (cells : Column × List ℕ) × (cells_at p.leaf.leaf_type (length p.leaf.nullable) count body ≡ Ok cells) × AreTested p cells.0 cells.1
unfolding column_in
cells_read bytes t p count body rows h e =
    let r = header_read bytes t p h.header h.behind rows e h.has in
    let l = leaf_of p.leaf in
    let same : plain_header l r.body.0 (length r.body.1) ≡ plain_header l count (length body) = sym r.plain ∙ h.plain in
    let many : r.body.0 ≡ count = ap (λ (h : Header). count_in h.content) same in
    let long : length r.body.1 ≡ length body = ap (λ (h : Header). h.compressed_page_size) same in
    let is : r.body.1 ≡ body = one_front r.body.1 body r.after h.after long (sym r.parts ∙ h.parts) in
    let here : column_in l p.left count body ≡ Ok r.column = rw (sym many, sym is) r.holds in
    let read = cells_at l.leaf_type (length l.nullable) count body in
    let a = bind_ok (refused_as in_page read) (λ cells. tested l p.left cells.0 cells.1) r.column here in
    (a.0, told_ok in_page read a.0 a.1, tests_passed p a.0.0 r.column a.0.1 a.2)

pub tests_read : (bytes : List ℕ) (t : Tree) (p : PagePlace) (c : Column) (rest : List ℕ) (rows : List Row) → rows_at bytes t ≡ Ok rows → HasPageCells bytes t p c rest → AreTested p c rest
tests_read bytes t p c rest rows e h =
    let r = cells_read bytes t p h.count h.body rows h.has e in
    let same : r.0 ≡ (c, rest) = ok_is r.0 (c, rest) (sym r.1 ∙ h.cells) in
    subst (λ (q : Column × List ℕ). AreTested p q.0 q.1) {x = r.0} {y = (c, rest)} same r.2
