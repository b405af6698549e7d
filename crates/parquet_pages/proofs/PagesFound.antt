-- A page that is read stands in the bytes, and so do pages that are read one behind the other.
use Rattle.std.proofs.Common.{◌≡◌, ℕ, zero, suc, ◌+◌, ◌-◌, ◌<◌, ◌≤◌, ℤ, pos, negsuc, true, false, not, ◌||◌, ltb, leb, eqb, List, [], ◌++◌, length, take, drop, Ok, refl, sym, ap, subst, ◌∙◌, arith, append_assoc, length-append, append-nil, length-take, length-drop, take-append-drop}
use Rattle.std.specs.List.{list_all, list_any}
use Rattle.std.proofs.lemmas.Bool.{ltb-true, ltb-false, leb-true, eqb-true, ne_eqb, not-false, or_parts}
use Rattle.std.proofs.lemmas.List.{nil_from_length}
use Rattle.std.proofs.lemmas.List.Elements.{All-append, All-nil}
use Rattle.outcomes.specs.Results.{◌>>=◌, refused_as, refused_if}
use Rattle.outcomes.specs.Bytes.{IsBytes}
use Rattle.lake_bytes.specs.declared.fault.ByteFault.{ByteFault}
use Rattle.row_core.specs.Conforms.{is_leaf_value}
use Rattle.row_core.specs.Rows.{Value}
use Rattle.shred.specs.Columns.{Column}
use Rattle.parquet_pages.specs.Headers.{Header}
use Rattle.page_cells.specs.Levels.{levels_at, may_stand, present}
use Rattle.parquet_pages.specs.Pages.{ArePages, ChunkHolds, IsBody, IsPage, Leaf, Suits, from_place, has_levels, highest, joined, no_cells, no_page, page, plain_header, without_rows}
use Rattle.page_cells.specs.Texts.{is_proper, is_too_long}
use Rattle.page_cells.specs.Plain.{plain_at}
use Rattle.parquet_pages.specs.Reading.{body_at, cells_at, chunk_at, column_in, first_place, has_mismatch, header_at, page_at, pages_at, tested}
use Rattle.page_cells.specs.Outcome.{in_page}
use Rattle.page_cells.specs.Types.{primitive_of}
use Rattle.parquet_footer.specs.declared.fault.FileFault.{FileFault}
use Rattle.parquet_footer.specs.declared.fault.FileFault.TheVariants.{BadOffset, CountMismatch, NotUtf8, SchemaMismatch, TooLarge}
use Rattle.page_cells.proofs.Callers.{allowed, bind_ok, bytes_after, bytes_behind, bytes_first, held, ok_is, told_ok, LevelsInFront, levels_found, all_pass, PlainInFront, plain_found}
use Rattle.parquet_pages.proofs.HeaderFound.{BodyInFront, HeaderInFront, body_found, header_found, header_told}

-- ---- the body

abbrev column_of : List ℕ → List Value → Column
column_of levels values = record { levels = levels; values = values }

-- a body's levels and values stand in front
record CellsInFront (l : Leaf) (count : ℕ) (body : List ℕ) (c : Column) (rest : List ℕ) : Type 0 where
  front : List ℕ
  split : body ≡ front ++ rest
  holds : IsBody l front c
  many : length c.levels ≡ count

cells_in_front : (l : Leaf) (count : ℕ) (body levels left : List ℕ) (values : List Value) (rest : List ℕ)
    → LevelsInFront (highest l) count body levels left
    → PlainInFront l.leaf_type (present (highest l) levels) left values rest
    → CellsInFront l count body (column_of levels values) rest
cells_in_front l count body levels left values rest f p = record {
  front = f.front ++ p.front;
  split = f.split ∙ ap (λ (t : List ℕ). f.front ++ t) p.split ∙ sym (append_assoc f.front p.front rest);
  holds = record {
    level_bytes = f.front;
    value_bytes = p.front;
    parts = refl;
    levels = f.are;
    values = p.spelled;
    value_each = sym p.many;
  };
  many = f.many;
}

cells_found : (l : Leaf) (count : ℕ) (body : List ℕ) (c : Column) (rest : List ℕ) → IsBytes body
    → cells_at l.leaf_type (highest l) count body ≡ Ok (c, rest) → CellsInFront l count body c rest
unfolding cells_at
cells_found l count body c rest h e =
    let top = highest l in
    let a = bind_ok (levels_at top count body) (λ levels. plain_at l.leaf_type (present top levels.0) levels.1
    >>= λ values.
    Ok (column_of levels.0 values.0, values.1)) (c, rest) e in
    let levels = a.0.0 in
    let f = levels_found top count body levels a.0.1 h a.1 in
    let b = bind_ok (plain_at l.leaf_type (present top levels) a.0.1)
    (λ values. Ok (column_of levels values.0, values.1)) (c, rest) a.2 in
    let p = plain_found l.leaf_type (present top levels) a.0.1 b.0.0 b.0.1 (bytes_after body f.front a.0.1 f.split h)
    b.1 in
    subst (λ (x : Column × List ℕ). CellsInFront l count body x.0 x.1) {x = (column_of levels b.0.0, b.0.1)}
    (ok_is {E = ByteFault} (column_of levels b.0.0, b.0.1) (c, rest) b.2)
    (cells_in_front l count body levels a.0.1 b.0.0 b.0.1 f p)

-- what the tests of a page's cells let through
record Passed (l : Leaf) (left : ℕ) (c : Column) (behind : List ℕ) (d : Column) : Type 0 where
  same : c ≡ d
  none : behind ≡ []
  few : length c.levels ≤ left
  suits : Suits l c

tests_passed : (l : Leaf) (left : ℕ) (c : Column) (behind : List ℕ) (d : Column) → tested l left c behind ≡ Ok d
    → Passed l left c behind d
unfolding tested
tests_passed l left c behind d e =
    let is_leaf = is_leaf_value (primitive_of l.leaf_type) in
    let whole = not (eqb (length behind) 0) || ltb left (length c.levels) in
    let proper = not (list_all is_proper c.values) in
    let last = λ (x : Unit {0}). refused_if (has_mismatch l c) SchemaMismatch >>= λ suits. Ok c in
    let third = λ (x : Unit {0}). refused_if proper NotUtf8 >>= last in
    let p = allowed (list_any is_too_long c.values) TooLarge (λ short. refused_if whole CountMismatch >>= third) d e in
    let q = allowed whole CountMismatch third d p.1 in
    let r = allowed proper NotUtf8 last d q.1 in
    let s = allowed (has_mismatch l c) SchemaMismatch (λ suits. Ok c) d r.1 in
    let w = or_parts (not (eqb (length behind) 0)) (ltb left (length c.levels)) q.0 in
    let m = or_parts (not (list_all (may_stand l.nullable) c.levels)) (not (list_all is_leaf c.values)) s.0 in
    record {
      same = ok_is {E = FileFault} c d s.1;
      none = nil_from_length behind (eqb-true (length behind) 0 (not-false _ w.0));
      few = ltb-false left (length c.levels) w.1;
      suits = record {
        of_type = all_pass is_leaf c.values (not-false _ m.1);
        proper = all_pass is_proper c.values (not-false _ r.0);
        nulls = all_pass (may_stand l.nullable) c.levels (not-false _ m.0);
      };
    }

-- the column's part in a body
record IsColumn (l : Leaf) (left count : ℕ) (body : List ℕ) (c : Column) : Type 0 where
  holds : IsBody l body c
  many : length c.levels ≡ count
  few : length c.levels ≤ left
  suits : Suits l c

column_found : (l : Leaf) (left count : ℕ) (body : List ℕ) (c : Column) → IsBytes body
    → column_in l left count body ≡ Ok c
    → IsColumn l left count body c
unfolding column_in
column_found l left count body c h e =
    let a = bind_ok (refused_as in_page (cells_at l.leaf_type (highest l) count body))
    (λ cells. tested l left cells.0 cells.1) c e in
    let f = cells_found l count body a.0.0 a.0.1 h
    (told_ok in_page (cells_at l.leaf_type (highest l) count body) a.0 a.1) in
    let t = tests_passed l left a.0.0 a.0.1 c a.2 in
    let whole : f.front ≡ body = sym (f.split ∙ ap (λ (r : List ℕ). f.front ++ r) t.none ∙ append-nil f.front) in
    subst (IsColumn l left count body) {x = a.0.0} t.same
    (record {
      holds = subst (λ (b : List ℕ). IsBody l b a.0.0) whole f.holds;
      many = f.many;
      few = t.few;
      suits = t.suits;
    })

-- ---- a page

record PageFound (l : Leaf) (given : List ℕ) (place left : ℕ) (c : Column) (next : ℕ) : Type 0 where
  stands : IsPage l given place c next
  few : length c.levels ≤ left
  suits : Suits l c

-- a header, and its body behind it, are a page
page_stands : (l : Leaf) (given : List ℕ) (place left : ℕ) (header : Header) (behind : List ℕ) (count : ℕ)
    (body : List ℕ) (c : Column)
    → place < length given → HeaderInFront (has_levels l) (drop place given) header behind
    → BodyInFront l header behind count body
    → IsColumn l left count body c → PageFound l given place left c (length given - length behind + length body)
page_stands l given place left header behind count body c inside f b k =
    let before : length (take place given) ≡ place = omega (arith, length-take place given) in
    record {
      stands = record {
        before = take place given;
        header = f.front;
        body = body;
        behind = b.rest;
        parts = sym (take-append-drop place given) ∙ ap (λ (t : List ℕ). take place given ++ t)
            (f.split ∙ ap (λ (t : List ℕ). f.front ++ t) b.split);
        tree = f.tree;
        spelled = f.spelled;
        says = f.says ∙ ap (λ (x : Header). Ok x) (b.is ∙ ap (λ (n : ℕ). plain_header l n (length body)) (sym k.many));
        holds = k.holds;
        begins = sym before;
        ends = omega (arith, inside, length-drop place given, ap length f.split, length-append f.front behind);
      };
      few = k.few;
      suits = k.suits;
    }

page_steps : (l : Leaf) (given : List ℕ) (place left next : ℕ) (c : Column) → IsBytes given
    → page_at l given place left ≡ Ok (c, next) → PageFound l given place left c next
unfolding page_at
page_steps l given place left next c h e =
    let from = drop place given in
    let end = λ (header : Header × List ℕ) (body : ℕ × List ℕ) (column : Column).
    Ok (column, length given - length header.1 + length body.1) in
    let after = λ (header : Header × List ℕ) (body : ℕ × List ℕ). column_in l left body.0 body.1 >>= end header body in
    let then = λ (header : Header × List ℕ). body_at header.0 header.1 >>= after header in
    let a = allowed (not (ltb place (length given))) BadOffset (λ begins. header_at (has_levels l) from >>= then)
    (c, next) e in
    let b = bind_ok (header_at (has_levels l) from) then (c, next) a.1 in
    let header = b.0.0 in
    let behind = b.0.1 in
    let k = bind_ok (body_at header behind) (after b.0) (c, next) b.2 in
    let count = k.0.0 in
    let body = k.0.1 in
    let m = bind_ok (column_in l left count body) (end b.0 k.0) (c, next) k.2 in
    let inside : place < length given = ltb-true place (length given) (not-false _ a.0) in
    let f = header_found (has_levels l) from header behind (bytes_behind place given h) b.1 in
    let behind_fits = bytes_after from f.front behind f.split (bytes_behind place given h) in
    let g = body_found l header behind count body (header_told (has_levels l) f.tree header f.says) k.1 in
    let o = column_found l left count body m.0 (bytes_first behind body g.rest g.split behind_fits) m.1 in
    subst (λ (p : Column × ℕ). PageFound l given place left p.0 p.1)
    {x = (m.0, length given - length behind + length body)}
    (ok_is {E = FileFault} (m.0, length given - length behind + length body) (c, next) m.2)
    (page_stands l given place left header behind count body m.0 inside f g o)

-- A page that is read stands at its place, and suits the leaf.
pub page_found : (l : Leaf) (given : List ℕ) (place left next : ℕ) (c : Column) → IsBytes given
    → page_at l given place left ≡ Ok (c, next) → IsPage l given place c next × Suits l c
page_found l given place left next c h e =
    let p = page_steps l given place left next c h e in
    (p.stands, p.suits)

-- ---- pages

suits_both : (l : Leaf) (a b : Column) → Suits l a → Suits l b → Suits l (joined a b)
suits_both l a b h k = record {
  of_type = All-append (λ v. is_leaf_value (primitive_of l.leaf_type) v ≡ true) a.values b.values h.of_type k.of_type;
  proper = All-append (λ v. is_proper v ≡ true) a.values b.values h.proper k.proper;
  nulls = All-append (λ level. may_stand l.nullable level ≡ true) a.levels b.levels h.nulls k.nulls;
}

suits_none : (l : Leaf) → Suits l no_cells
suits_none l = record {
  of_type = All-nil (λ v. is_leaf_value (primitive_of l.leaf_type) v ≡ true);
  proper = All-nil (λ v. is_proper v ≡ true);
  nulls = All-nil (λ level. may_stand l.nullable level ≡ true);
}

record PagesFound (l : Leaf) (given : List ℕ) (place left : ℕ) (c : Column) : Type 0 where
  many : length c.levels ≡ left
  stand : ArePages l given place c
  suits : Suits l c

pages_found : (most : ℕ) (l : Leaf) (given : List ℕ) (place left : ℕ) (c : Column) → IsBytes given
    → pages_at most l given place left ≡ Ok c → PagesFound l given place left c
unfolding pages_at
pages_found most l given place zero c h e =
    subst (PagesFound l given place 0) (ok_is {E = FileFault} no_cells c e)
    (record { many = refl; stand = no_page place; suits = suits_none l })
pages_found zero l given place (suc left) c h e = absurd cc
pages_found (suc most) l given place (suc left) c h e =
    let a = bind_ok (page_at l given place (suc left))
    (λ page. pages_at most l given page.1 (suc left - length page.0.levels) >>= λ others.
    Ok (joined page.0 others)) c e in
    let first = a.0.0 in
    let next = a.0.1 in
    let one = page_steps l given place (suc left) next first h a.1 in
    let b = bind_ok (pages_at most l given next (suc left - length first.levels)) (λ others. Ok (joined first others))
    c a.2 in
    let more = pages_found most l given next (suc left - length first.levels) b.0 h b.1 in
    let many : length (first.levels ++ b.0.levels) ≡ suc left =
    omega (arith, one.few, more.many, length-append first.levels b.0.levels) in
    subst (PagesFound l given place (suc left)) {x = joined first b.0} (ok_is {E = FileFault} (joined first b.0) c b.2)
    (record {
      many = many;
      stand = page place next first b.0 one.stands more.stand (omega (arith, many));
      suits = suits_both l first b.0 one.suits more.suits;
    })

-- ---- a chunk

record FirstPlace (stated : ℤ) (place : ℕ) : Type 0 where
  at : stated ≡ pos place
  behind : 4 ≤ place

first_place_found : (stated : ℤ) (place : ℕ) → first_place stated ≡ Ok place → FirstPlace stated place
unfolding first_place
first_place_found (pos n) place e =
    let t = held (leb 4 n) BadOffset n place e in
    record { at = ap pos t.1; behind = subst (λ (k : ℕ). 4 ≤ k) t.1 (leb-true 4 n t.0) }
first_place_found (negsuc n) place e = absurd cc

-- where a chunk has values its pages are read
pub chunk_some : (l : Leaf) (given : List ℕ) (stated : ℤ) (n : ℕ)
    → chunk_at l given stated (suc n) ≡ (first_place stated >>= λ place. pages_at (length given) l given place (suc n))
unfolding chunk_at
chunk_some l given stated n =
    let some : eqb (suc n) 0 ≡ false = ne_eqb (suc n) 0 (λ e. absurd (omega arith)) in
    rw some refl

record ChunkFound (l : Leaf) (given : List ℕ) (stated : ℤ) (n : ℕ) (c : Column) : Type 0 where
  stands : ChunkHolds l given stated c
  suits : Suits l c
  many : n ≡ length c.levels

chunk_steps : (l : Leaf) (given : List ℕ) (stated : ℤ) (n : ℕ) (c : Column) → IsBytes given
    → chunk_at l given stated n ≡ Ok c → ChunkFound l given stated n c
unfolding chunk_at
chunk_steps l given stated zero c h e =
    subst (ChunkFound l given stated 0) (ok_is {E = FileFault} no_cells c e)
    (record { stands = without_rows; suits = suits_none l; many = refl })
chunk_steps l given stated (suc n) c h e =
    let a = bind_ok (first_place stated) (λ place. pages_at (length given) l given place (suc n)) c
    (sym (chunk_some l given stated n) ∙ e) in
    let f = first_place_found stated a.0 a.1 in
    let p = pages_found (length given) l given a.0 (suc n) c h a.2 in
    record { stands = from_place a.0 c f.at f.behind p.stand; suits = p.suits; many = sym p.many }

-- The column that is read of a chunk is held by its pages, suits the leaf and has as many levels as were asked for.
pub chunk_found : (l : Leaf) (given : List ℕ) (stated : ℤ) (n : ℕ) (c : Column) → IsBytes given
    → chunk_at l given stated n ≡ Ok c → ChunkHolds l given stated c × Suits l c × (n ≡ length c.levels)
chunk_found l given stated n c h e =
    let f = chunk_steps l given stated n c h e in
    (f.stands, f.suits, f.many)
