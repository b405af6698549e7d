-- A fault of a page stands in the bytes.
use Rattle.std.proofs.Common.{◌≡◌, ℕ, ◌<◌, ◌+◌, ◌-◌, ◌||◌, ltb, eqb, not, Bool, true, false, cond, ℤ, pos, List, length, take, drop, Option, None, Some, Result, Ok, Err, inl, inr, refl, ap, subst, ◌∙◌}
use Rattle.std.specs.Prelude.{Contains}
use Rattle.std.specs.List.{list_all, list_any}
use Rattle.std.specs.Ordering.{int_eq}
use Rattle.std.proofs.lemmas.Bool.{both_ways, eqb-false, ltb-false, ltb-true, not-false, not-true, or_cases}
use Rattle.std.proofs.lemmas.Bool.Decides.{Decides-int_eq}
use Rattle.outcomes.specs.Results.{◌>>=◌, refused_as, refused_if}
use Rattle.outcomes.specs.Bytes.{IsBytes}
use Rattle.thrift_core.specs.Reading.{struct_at}
use Rattle.row_core.specs.Conforms.{is_leaf_value}
use Rattle.row_core.specs.Rows.{Value, text}
use Rattle.schema_tree.specs.Tree.{Tree}
use Rattle.row_assembly.specs.Columns.{Column}
use Rattle.parquet_footer.specs.declared.fault.FileFault.{FileFault}
use Rattle.parquet_footer.specs.declared.fault.FileFault.TheVariants.{BadOffset, BadPage, CountMismatch, Encoding, NotUtf8, PageKind, SchemaMismatch, TooLarge}
use Rattle.parquet_footer.proofs.Callers.{bind_ok, bytes_behind, ok_is}
use Rattle.parquet_pages.specs.Headers.{Content, Header, data_page, dictionary_page, header_of, other_page}
use Rattle.parquet_pages.specs.Pages.{has_levels}
use Rattle.page_cells.specs.Levels.{may_stand}
use Rattle.page_cells.specs.Texts.{is_proper, is_too_long}
use Rattle.parquet_pages.specs.Reading.{DataPage, body_at, cells_at, column_in, data_page_by, encoding_fault, has_mismatch, header_at, level_encoding_fault, page_at, tested, unless_fault}
use Rattle.page_cells.specs.Outcome.{in_page}
use Rattle.page_cells.specs.Types.{primitive_of}
use Rattle.parquet_pages.proofs.HeaderFound.{body_found, header_told}
use Rattle.parquet_file.specs.File.{leaf_of}
use Rattle.file_laws.specs.Faults.{FaultStands, HasPageKind, bytes_are_left, cells_are_bad, ends_late, begins_late, header_is_no_struct, header_lacks_field, levels_encoded, null_is_out_of_place, sizes_differ, value_is_out_of_range, value_too_long, values_are_many, values_encoded}
use Rattle.file_laws.specs.Places.{HasBody, HasHeader, HasPageCells, MeetsPage, PagePlace}
use Rattle.file_laws.proofs.PageTypes.{IsData, type_tells}
use Rattle.file_laws.proofs.Members.{failing, passing}
use Rattle.file_laws.proofs.Steps.{above_zero, by_step, by_test, by_told, err_is, never, told_ok}
use Rattle.file_laws.proofs.Structs.{begins, no_struct}

-- ---- the header

header_fault : (bytes : List ℕ) (t : Tree) (p : PagePlace) (fault : FileFault) → IsBytes p.given → MeetsPage bytes t p → p.place < length p.given
    → header_at (has_levels (leaf_of p.leaf)) (drop p.place p.given) ≡ Err fault → FaultStands bytes t fault
unfolding header_at
header_fault bytes t p fault fits met inside e =
    let levels = has_levels (leaf_of p.leaf) in
    let from = drop p.place p.given in
    by_step (FaultStands bytes t) (refused_as BadPage (struct_at from)) (λ read. refused_as BadPage (header_of levels read.0) >>= λ header. Ok (header, read.1)) fault e
    (λ e1. by_told (FaultStands bytes t) BadPage (struct_at from) fault e1 (λ inner e2. header_is_no_struct p met inside (no_struct from inner e2)))
    (λ read is e1. by_step (FaultStands bytes t) (refused_as BadPage (header_of levels read.0)) (λ header. Ok (header, read.1)) fault e1
    (λ e2. by_told (FaultStands bytes t) BadPage (header_of levels read.0) fault e2
    (λ inner e3. header_lacks_field p read.0 read.1 met inside (begins from read.0 read.1 (bytes_behind p.place p.given fits) (told_ok BadPage (struct_at from) read is)) e3))
    (λ header says e2. absurd (never (header, read.1) fault (Ok (header, read.1)) refl e2)))

has_header : (bytes : List ℕ) (t : Tree) (p : PagePlace) (header : Header) (behind : List ℕ) → IsBytes p.given → MeetsPage bytes t p → p.place < length p.given
    → header_at (has_levels (leaf_of p.leaf)) (drop p.place p.given) ≡ Ok (header, behind) → HasHeader bytes t p header behind
unfolding header_at
has_header bytes t p header behind fits met inside e =
    let levels = has_levels (leaf_of p.leaf) in
    let from = drop p.place p.given in
    let a = bind_ok (refused_as BadPage (struct_at from)) (λ read. refused_as BadPage (header_of levels read.0) >>= λ header. Ok (header, read.1)) (header, behind) e in
    let b = bind_ok (refused_as BadPage (header_of levels a.0.0)) (λ header. Ok (header, a.0.1)) (header, behind) a.2 in
    let same = ok_is {E = FileFault} (b.0, a.0.1) (header, behind) b.2 in
    subst (λ (h : Header × List ℕ). HasHeader bytes t p h.0 h.1) {x = (b.0, a.0.1)} same
    (record {
      met = met;
      inside = inside;
      tree = a.0.0;
      begins = begins from a.0.0 a.0.1 (bytes_behind p.place p.given fits) (told_ok BadPage (struct_at from) a.0 a.1);
      says = told_ok BadPage (header_of levels a.0.0) b.0 b.1;
    })

-- ---- the body

encoding_fails : (bytes : List ℕ) (t : Tree) (p : PagePlace) (header : Header) (behind : List ℕ) (count : ℕ) (encoding : ℤ) (level : Option ℤ) → HasHeader bytes t p header behind
    → header.content ≡ data_page count encoding level → (fault : FileFault) {A : Type 0} (x : A) → unless_fault (encoding_fault encoding level) x ≡ Err fault → FaultStands bytes t fault
encoding_fails bytes t p header behind count encoding level has content fault x e = of_values (int_eq encoding (pos 0)) refl e
  where
    of_level : (o : Option ℤ) → level ≡ o → unless_fault (level_encoding_fault o) x ≡ Err fault → FaultStands bytes t fault
    of_level None is fails = absurd (never x fault (Ok x) refl fails)
    of_level (Some n) is fails = by_rle (int_eq n (pos 3)) refl fails
      where
        by_rle : (b : Bool) → int_eq n (pos 3) ≡ b → unless_fault (cond b None (Some (Encoding n))) x ≡ Err fault → FaultStands bytes t fault
        by_rle true rle again = absurd (never x fault (Ok x) refl again)
        by_rle false rle again = subst (FaultStands bytes t) (err_is (Encoding n) fault (Err (Encoding n)) refl again)
            (levels_encoded p header behind count encoding has (content ∙ ap (λ (o : Option ℤ). data_page count encoding o) is) (λ same. both_ways _ rle ((Decides-int_eq n (pos 3)).1 same)))

    of_values : (b : Bool) → int_eq encoding (pos 0) ≡ b → unless_fault (cond b (level_encoding_fault level) (Some (Encoding encoding))) x ≡ Err fault → FaultStands bytes t fault
    of_values true plain fails = of_level level refl fails
    of_values false plain fails = subst (FaultStands bytes t) (err_is (Encoding encoding) fault (Err (Encoding encoding)) refl fails)
        (values_encoded p header behind count level has content (λ same. both_ways _ plain ((Decides-int_eq encoding (pos 0)).1 same)))

-- a page that is no data page has another type
kind_fails : (bytes : List ℕ) (t : Tree) (p : PagePlace) (header : Header) (behind : List ℕ) → HasHeader bytes t p header behind
    → (IsData header.content → ⊥) → HasPageKind bytes t header.page_type
kind_fails bytes t p header behind has none = record {
  page = p;
  header = header;
  behind = behind;
  has = has;
  kind = refl;
  other = λ zero. none (type_tells (has_levels (leaf_of p.leaf)) has.tree header has.says zero);
}

by_kind : (bytes : List ℕ) (t : Tree) (p : PagePlace) (header : Header) (behind : List ℕ) → HasHeader bytes t p header behind → (content : Content) → header.content ≡ content
    → (f : DataPage → Result (ℕ × List ℕ) FileFault) (fault : FileFault) → (data_page_by header.page_type content >>= f) ≡ Err fault
    → ((page : DataPage) → header.content ≡ data_page page.num_values page.encoding page.level_encoding → f page ≡ Err fault → FaultStands bytes t fault) → FaultStands bytes t fault
by_kind bytes t p header behind has (data_page count encoding level_encoding) is f fault e next =
    next (record { num_values = count; encoding = encoding; level_encoding = level_encoding }) is e
by_kind bytes t p header behind has (dictionary_page count encoding) is f fault e next =
    subst (FaultStands bytes t) (err_is (PageKind header.page_type) fault (Err (PageKind header.page_type)) refl e)
    (kind_fails bytes t p header behind has (λ data_is. subst IsData is data_is))
by_kind bytes t p header behind has other_page is f fault e next =
    subst (FaultStands bytes t) (err_is (PageKind header.page_type) fault (Err (PageKind header.page_type)) refl e)
    (kind_fails bytes t p header behind has (λ data_is. subst IsData is data_is))

body_fault : (bytes : List ℕ) (t : Tree) (p : PagePlace) (header : Header) (behind : List ℕ) (fault : FileFault) → HasHeader bytes t p header behind
    → body_at header behind ≡ Err fault → FaultStands bytes t fault
unfolding body_at
body_fault bytes t p header behind fault has e =
    let size = header.compressed_page_size in
    let long = ltb (length behind) size in
    let differ = not (eqb header.uncompressed_page_size size) in
    let last = λ (page : DataPage) (agrees : Unit {0}). unless_fault (encoding_fault page.encoding page.level_encoding) (page.num_values, take size behind) in
    let second = λ (page : DataPage) (ends : Unit {0}). refused_if differ CountMismatch >>= last page in
    by_kind bytes t p header behind has header.content refl (λ page. refused_if long BadOffset >>= second page) fault e
    (λ page content e1. by_test (FaultStands bytes t) long BadOffset (second page) fault e1
    (λ late. ends_late p header behind has (ltb-true (length behind) size late))
    (λ ends e2. by_test (FaultStands bytes t) differ CountMismatch (last page) fault e2
    (λ other. sizes_differ p header behind has (eqb-false header.uncompressed_page_size size (not-true _ other)))
    (λ agree e3. encoding_fails bytes t p header behind page.num_values page.encoding page.level_encoding has content fault (page.num_values, take size behind) e3)))

-- ---- levels and values

has_body : (bytes : List ℕ) (t : Tree) (p : PagePlace) (header : Header) (behind : List ℕ) (count : ℕ) (body : List ℕ) → HasHeader bytes t p header behind
    → body_at header behind ≡ Ok (count, body) → HasBody bytes t p count body
has_body bytes t p header behind count body has e =
    let l = leaf_of p.leaf in
    let found = body_found l header behind count body (header_told (has_levels l) has.tree header has.says) e in
    record { header = header; behind = behind; has = has; plain = found.is; after = found.rest; parts = found.split }

-- a text that isn't proper is no UTF-8
bad_text : (bytes : List ℕ) (t : Tree) (p : PagePlace) (c : Column) (rest : List ℕ) → HasPageCells bytes t p c rest → (v : Value) → Contains c.values v → is_proper v ≡ false → FaultStands bytes t NotUtf8
bad_text bytes t p c rest cells (text s) inside bad = record { page = p; column = c; rest = rest; has = cells; content = s; inside = inside; bad = bad }
bad_text bytes t p c rest cells v inside bad = absurd cc

tested_fault : (bytes : List ℕ) (t : Tree) (p : PagePlace) (c : Column) (rest : List ℕ) (fault : FileFault) → HasPageCells bytes t p c rest
    → tested (leaf_of p.leaf) p.left c rest ≡ Err fault → FaultStands bytes t fault
unfolding tested
tested_fault bytes t p c rest fault cells e =
    let l = leaf_of p.leaf in
    let last = λ (texts : Unit {0}). refused_if (has_mismatch l c) SchemaMismatch >>= λ suits. Ok c in
    let third = λ (whole : Unit {0}). refused_if (not (list_all is_proper c.values)) NotUtf8 >>= last in
    let second = λ (short : Unit {0}). refused_if (not (eqb (length rest) 0) || ltb p.left (length c.levels)) CountMismatch >>= third in
    by_test (FaultStands bytes t) (list_any is_too_long c.values) TooLarge second fault e
    (λ long. let found = passing is_too_long c.values long in value_too_long p c rest found.0 cells found.1 found.2)
    (λ short e1. by_test (FaultStands bytes t) (not (eqb (length rest) 0) || ltb p.left (length c.levels)) CountMismatch third fault e1
    (λ bad. elim (or_cases (not (eqb (length rest) 0)) (ltb p.left (length c.levels)) bad) [
      | inl some ↦ bytes_are_left p c rest cells (above_zero (length rest) (eqb-false (length rest) 0 (not-true _ some)))
      | inr many ↦ values_are_many p c rest cells (ltb-true p.left (length c.levels) many)
    ])
    (λ whole e2. by_test (FaultStands bytes t) (not (list_all is_proper c.values)) NotUtf8 last fault e2
    (λ bad. let found = failing is_proper c.values (not-true _ bad) in bad_text bytes t p c rest cells found.0 found.1 found.2)
    (λ texts e3. by_test (FaultStands bytes t) (has_mismatch l c) SchemaMismatch (λ suits. Ok c) fault e3
    (λ bad. elim (or_cases (not (list_all (may_stand l.nullable) c.levels)) (not (list_all (is_leaf_value (primitive_of l.leaf_type)) c.values)) bad) [
      | inl null ↦ let found = failing (may_stand l.nullable) c.levels (not-true _ null) in null_is_out_of_place p c rest found.0 cells found.1 found.2
      | inr out ↦ let found = failing (is_leaf_value (primitive_of l.leaf_type)) c.values (not-true _ out) in value_is_out_of_range p c rest found.0 cells found.1 found.2
    ])
    (λ suits e4. absurd (never c fault (Ok c) refl e4)))))

column_fault : (bytes : List ℕ) (t : Tree) (p : PagePlace) (count : ℕ) (body : List ℕ) (fault : FileFault) → HasBody bytes t p count body
    → column_in (leaf_of p.leaf) p.left count body ≡ Err fault → FaultStands bytes t fault
unfolding column_in
column_fault bytes t p count body fault has e =
    let l = leaf_of p.leaf in
    let read = cells_at l.leaf_type (length l.nullable) count body in
    by_step (FaultStands bytes t) (refused_as in_page read) (λ cells. tested l p.left cells.0 cells.1) fault e
    (λ e1. by_told (FaultStands bytes t) in_page read fault e1 (λ inner e2. cells_are_bad p count body inner has e2 refl))
    (λ cells is e1. tested_fault bytes t p cells.0 cells.1 fault (record { count = count; body = body; has = has; cells = told_ok in_page read cells is }) e1)

-- ---- a page

pub page_fault : (bytes : List ℕ) (t : Tree) (p : PagePlace) (fault : FileFault) → IsBytes p.given → MeetsPage bytes t p
    → page_at (leaf_of p.leaf) p.given p.place p.left ≡ Err fault → FaultStands bytes t fault
unfolding page_at
page_fault bytes t p fault fits met e =
    let l = leaf_of p.leaf in
    let end = λ (header : Header × List ℕ) (body : ℕ × List ℕ) (column : Column). Ok (column, length p.given - length header.1 + length body.1) in
    let third = λ (header : Header × List ℕ) (body : ℕ × List ℕ). column_in l p.left body.0 body.1 >>= end header body in
    let second = λ (header : Header × List ℕ). body_at header.0 header.1 >>= third header in
    by_test (FaultStands bytes t) (not (ltb p.place (length p.given))) BadOffset (λ begins. header_at (has_levels l) (drop p.place p.given) >>= second) fault e
    (λ late. begins_late p met (ltb-false p.place (length p.given) (not-true _ late)))
    (λ inside e1. by_step (FaultStands bytes t) (header_at (has_levels l) (drop p.place p.given)) second fault e1
    (λ e2. header_fault bytes t p fault fits met (ltb-true p.place (length p.given) (not-false _ inside)) e2)
    (λ header is e2.
    let has = has_header bytes t p header.0 header.1 fits met (ltb-true p.place (length p.given) (not-false _ inside)) is in
    by_step (FaultStands bytes t) (body_at header.0 header.1) (third header) fault e2
    (λ e3. body_fault bytes t p header.0 header.1 fault has e3)
    (λ body are e3. by_step (FaultStands bytes t) (column_in l p.left body.0 body.1) (end header body) fault e3
    (λ e4. column_fault bytes t p body.0 body.1 fault (has_body bytes t p header.0 header.1 body.0 body.1 has are) e4)
    (λ column read e4. absurd (never _ fault (end header body column) refl e4)))))
