-- A page that stands in the bytes is read, and so are pages that stand one behind the other.
use Rattle.std.proofs.Common.{◌≡◌, ℕ, zero, suc, ◌+◌, ◌-◌, ◌<◌, ◌≤◌, ℤ, pos, Bool, true, false, ltb, List, [], ◌∷◌, ◌++◌, length, All, Ok, refl, sym, ap, subst, ◌∙◌, arith, length-append, append-nil, eq-eqb}
use Rattle.std.specs.List.{list_all, list_any}
use Rattle.std.proofs.lemmas.Bool.{and_parts, leb-true, le-leb, lt-ltb, le-ltb}
use Rattle.std.proofs.lemmas.List.{take_at, drop_at}
use Rattle.std.proofs.lemmas.List.Elements.{All-weaker}
use Rattle.std.proofs.lemmas.List.Folds.{list_any_none}
use Rattle.thrift_core.specs.Reading.{content_ahead, counted, fields_ahead, struct_ahead, struct_at, value_ahead}
use Rattle.thrift_core.specs.Spelling.{SpellsStruct}
use Rattle.thrift_core.specs.Tree.{Tree}
use Rattle.thrift_core.proofs.Callers.{struct_at_again}
use Rattle.row_core.specs.Conforms.{is_byte, is_leaf_value, is_short, max_bytes}
use Rattle.row_core.specs.Rows.{Value, text, bytes}
use Rattle.shred.specs.Columns.{Column}
use Rattle.parquet_pages.specs.Headers.{Header, header_of}
use Rattle.parquet_pages.specs.Pages.{ArePages, ChunkHolds, IsBody, IsPage, Leaf, Suits, from_place, has_levels, highest, joined, no_page, page, plain_header, rle_where, without_rows}
use Rattle.page_cells.specs.Levels.{may_stand}
use Rattle.page_cells.specs.Texts.{is_proper, is_too_long}
use Rattle.parquet_pages.specs.Reading.{body_at, cells_at, chunk_at, column_in, encoding_fault, first_place, header_at, page_at, pages_at, tested, unless_fault}
use Rattle.page_cells.specs.Types.{primitive_of}
use Rattle.page_cells.specs.declared.types.LeafType.{LeafType}
use Rattle.page_cells.specs.declared.types.LeafType.TheVariants as leaf
use Rattle.page_cells.proofs.Callers.{levels_stand, all_behind, all_first, pass_all, plain_stands}
use Rattle.parquet_pages.proofs.PagesFound.{chunk_some}

-- ---- the header

-- of no bytes no struct is read
nothing_spelled : (header : List ℕ) (tree : Tree) → SpellsStruct header tree → header ≡ [] → ⊥
unfolding struct_at value_ahead counted content_ahead struct_ahead fields_ahead
nothing_spelled header tree spelled none =
    let read : struct_at [] ≡ Ok (tree, []) = subst (λ (h : List ℕ). struct_at (h ++ []) ≡ Ok (tree, [])) none
    (struct_at_again header tree [] spelled) in
    absurd cc

-- a struct takes a byte at least
struct_length : (header : List ℕ) (tree : Tree) → SpellsStruct header tree → 1 ≤ length header
struct_length [] tree spelled = absurd (nothing_spelled [] tree spelled refl)
struct_length (b ∷ header) tree spelled = omega arith

header_stands : (levels : Bool) (header rest : List ℕ) (tree : Tree) (h : Header) → SpellsStruct header tree
    → header_of levels tree ≡ Ok h → header_at levels (header ++ rest) ≡ Ok (h, rest)
unfolding header_at
header_stands levels header rest tree h spelled says = rw (struct_at_again header tree rest spelled, says) refl

-- ---- the body

encodings_stand : {A : Type 0} (levels : Bool) (x : A)
    → unless_fault (encoding_fault (pos 0) (rle_where levels)) x ≡ Ok x
encodings_stand true x = refl
encodings_stand false x = refl

body_stands : (l : Leaf) (count : ℕ) (body behind : List ℕ)
    → body_at (plain_header l count (length body)) (body ++ behind) ≡ Ok (count, body)
unfolding body_at
body_stands l count body behind =
    let long : ltb (length (body ++ behind)) (length body) ≡ false =
    le-ltb _ _ (omega (arith, length-append body behind)) in
    rw (long, eq-eqb (length body) (length body) refl, take_at body behind (length body) refl)
    (encodings_stand (has_levels l) (count, body))

abbrev IsOf : LeafType → Value → Type 0
IsOf type v = is_leaf_value (primitive_of type) v ≡ true

cells_stand : (l : Leaf) (body : List ℕ) (c : Column) → IsBody l body c → All (IsOf l.leaf_type) c.values
    → cells_at l.leaf_type (highest l) (length c.levels) body ≡ Ok (c, [])
unfolding cells_at
cells_stand l body c h of_type =
    rw (
      h.parts,
      levels_stand (highest l) h.level_bytes c.levels h.value_bytes h.levels,
      h.value_each,
      sym (append-nil h.value_bytes),
      plain_stands l.leaf_type h.value_bytes c.values [] h.values of_type,
    ) refl

-- ---- the tests

-- the values of a leaf's type are short
short_content : (s : List ℕ) → is_short s ≡ true → ltb max_bytes (length s) ≡ false
short_content s e = le-ltb max_bytes (length s) (leb-true (length s) max_bytes e)

short_text : (type : LeafType) (s : List ℕ) → IsOf type (text s) → is_too_long (text s) ≡ false
short_text leaf.String s is = short_content s is
short_text type s is = absurd cc

short_bytes : (type : LeafType) (s : List ℕ) → IsOf type (bytes s) → is_too_long (bytes s) ≡ false
short_bytes leaf.Binary s is = short_content s (and_parts (is_short s) (list_all is_byte s) is).0
short_bytes type s is = absurd cc

short_value : (type : LeafType) (v : Value) → IsOf type v → is_too_long v ≡ false
short_value type (text s) is = short_text type s is
short_value type (bytes s) is = short_bytes type s is
short_value type v is = refl

tests_pass : (l : Leaf) (left : ℕ) (c : Column) → Suits l c → length c.levels ≤ left → tested l left c [] ≡ Ok c
unfolding tested
tests_pass l left c s few =
    let is_leaf = is_leaf_value (primitive_of l.leaf_type) in
    let short : list_any is_too_long c.values ≡ false = list_any_none is_too_long c.values
    (All-weaker (IsOf l.leaf_type) (λ v. is_too_long v ≡ false) (short_value l.leaf_type) c.values s.of_type) in
    rw (
      short,
      le-ltb left (length c.levels) few,
      pass_all is_proper c.values s.proper,
      pass_all (may_stand l.nullable) c.levels s.nulls,
      pass_all is_leaf c.values s.of_type,
    ) refl

column_stands : (l : Leaf) (left : ℕ) (body : List ℕ) (c : Column) → IsBody l body c → Suits l c
    → length c.levels ≤ left
    → column_in l left (length c.levels) body ≡ Ok c
unfolding column_in
column_stands l left body c h s few = rw (cells_stand l body c h s.of_type) (tests_pass l left c s few)

-- ---- a page

page_read : (l : Leaf) (before header body behind : List ℕ) (tree : Tree) (left : ℕ) (c : Column)
    → SpellsStruct header tree
    → header_of (has_levels l) tree ≡ Ok (plain_header l (length c.levels) (length body)) → IsBody l body c → Suits l c
    → length c.levels ≤ left
    → page_at l (before ++ (header ++ (body ++ behind))) (length before) left ≡ Ok
    (c, length before + length header + length body)
unfolding page_at
page_read l before header body behind tree left c spelled says holds suits few =
    let rest = body ++ behind in
    let given = before ++ (header ++ rest) in
    let long : length given ≡ length before + (length header + length rest) =
    omega (arith, length-append before (header ++ rest), length-append header rest) in
    let inside : ltb (length before) (length given) ≡ true =
    lt-ltb _ _ (omega (arith, long, struct_length header tree spelled)) in
    let ends : length given - length rest + length body ≡ length before + length header + length body =
    omega (arith, long) in
    rw (
      inside,
      drop_at before (header ++ rest) (length before) refl,
      header_stands (has_levels l) header rest tree (plain_header l (length c.levels) (length body)) spelled says,
      body_stands l (length c.levels) body behind,
      column_stands l left body c holds suits few,
      ends,
    ) refl

-- The page that stands at a place is read there, if what it holds suits the leaf and no more is left.
pub page_only : (l : Leaf) (given : List ℕ) (place left next : ℕ) (c : Column) → IsPage l given place c next → Suits l c
    → length c.levels ≤ left → page_at l given place left ≡ Ok (c, next)
page_only l given place left next c p suits few =
    rw (p.parts, p.begins, p.ends) (rw p.begins (page_read l p.before p.header p.body p.behind p.tree left c p.spelled
    p.says p.holds suits few))

-- a page begins inside the bytes, and ends behind its begin
record IsInside (given : List ℕ) (place next : ℕ) : Type 0 where
  inside : place < length given
  rises : place < next

page_inside : (l : Leaf) (given : List ℕ) (place next : ℕ) (c : Column) → IsPage l given place c next
    → IsInside given place next
page_inside l given place next c p =
    let some = struct_length p.header p.tree p.spelled in
    let rest = p.body ++ p.behind in
    record {
      inside = omega (
        arith,
        some,
        p.begins,
        ap length p.parts,
        length-append p.before (p.header ++ rest),
        length-append p.header rest,
      );
      rises = omega (arith, some, p.ends);
    }

-- ---- pages

suits_first : (l : Leaf) (a b : Column) → Suits l (joined a b) → Suits l a
suits_first l a b s = record {
  of_type = all_first (IsOf l.leaf_type) a.values b.values s.of_type;
  proper = all_first (λ v. is_proper v ≡ true) a.values b.values s.proper;
  nulls = all_first (λ level. may_stand l.nullable level ≡ true) a.levels b.levels s.nulls;
}

suits_behind : (l : Leaf) (a b : Column) → Suits l (joined a b) → Suits l b
suits_behind l a b s = record {
  of_type = all_behind (IsOf l.leaf_type) a.values b.values s.of_type;
  proper = all_behind (λ v. is_proper v ≡ true) a.values b.values s.proper;
  nulls = all_behind (λ level. may_stand l.nullable level ≡ true) a.levels b.levels s.nulls;
}

one_more : (most : ℕ) (l : Leaf) (given : List ℕ) (place next left : ℕ) (first others : Column) → 0 < left
    → page_at l given place left ≡ Ok (first, next)
    → pages_at most l given next (left - length first.levels) ≡ Ok others
    → pages_at (suc most) l given place left ≡ Ok (joined first others)
unfolding pages_at
one_more most l given place next zero first others some read behind = absurd (omega arith)
one_more most l given place next (suc left) first others some read behind = rw (read, behind) refl

-- Pages that stand one behind the other are read, where the tries are as many as the bytes from the place on: each page
-- takes a byte at least.
pages_only : (l : Leaf) (given : List ℕ) (place : ℕ) (c : Column) (most : ℕ) → ArePages l given place c
    → length given ≤ place + most
    → Suits l c → pages_at most l given place (length c.levels) ≡ Ok c
unfolding pages_at
pages_only l given place c most (no_page p) enough suits = refl
pages_only l given place c zero (page p next first others one more some) enough suits =
    absurd (omega (arith, (page_inside l given p next first one).inside))
pages_only l given place c (suc most) (page p next first others one more some) enough suits =
    let inside = page_inside l given p next first one in
    let count : length (first.levels ++ others.levels) ≡ length first.levels + length others.levels =
    length-append first.levels others.levels in
    let left : length (first.levels ++ others.levels) - length first.levels ≡ length others.levels =
    omega (arith, count) in
    let behind : pages_at most l given next (length (first.levels ++ others.levels) - length first.levels) ≡ Ok others =
    rw left (pages_only l given next others most more (omega (arith, inside.rises))
    (suits_behind l first others suits)) in
    one_more most l given p next (length (first.levels ++ others.levels)) first others some
    (page_only l given p (length (first.levels ++ others.levels)) next first one (suits_first l first others suits)
    (omega (arith, count))) behind

-- ---- a chunk

first_place_stands : (place : ℕ) → 4 ≤ place → first_place (pos place) ≡ Ok place
unfolding first_place
first_place_stands place behind = rw (le-leb 4 place behind) refl

chunk_by : (l : Leaf) (given : List ℕ) (place n : ℕ) (c : Column) → length c.levels ≡ n → 0 < n → 4 ≤ place
    → ArePages l given place c
    → Suits l c → chunk_at l given (pos place) n ≡ Ok c
chunk_by l given place zero c many some behind are suits = absurd (omega arith)
chunk_by l given place (suc n) c many some behind are suits =
    let read : pages_at (length given) l given place (suc n) ≡ Ok c =
    rw (sym many) (pages_only l given place c (length given) are (omega arith) suits) in
    chunk_some l given (pos place) n ∙ rw (first_place_stands place behind) read

chunk_read : (l : Leaf) (given : List ℕ) (place : ℕ) (c : Column) → 4 ≤ place → ArePages l given place c → Suits l c
    → chunk_at l given (pos place) (length c.levels) ≡ Ok c
unfolding chunk_at
chunk_read l given place c behind (no_page p) suits = refl
chunk_read l given place c behind (page p next first others one more some) suits =
    chunk_by l given p (length (first.levels ++ others.levels)) (joined first others) refl some behind
    (page p next first others one more some) suits

-- The column that a chunk's pages hold is read, if it suits the leaf.
pub chunk_only : (l : Leaf) (given : List ℕ) (stated : ℤ) (c : Column) → ChunkHolds l given stated c → Suits l c
    → chunk_at l given stated (length c.levels) ≡ Ok c
unfolding chunk_at
chunk_only l given stated c without_rows suits = refl
chunk_only l given stated c (from_place place d at behind are) suits =
    rw at (chunk_read l given place c behind are suits)
