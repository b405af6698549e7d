-- The pages that are written for a whole column hold it.
use Rattle.std.proofs.Common.{◌≡◌, ℕ, zero, suc, ◌+◌, ◌-◌, ◌<◌, ◌≤◌, ◌^◌, pos, List, [], ◌∷◌, ◌++◌, length, take, drop, replicate, All, Bool, true, false, cond, eqb, ltb, Ok, Err, refl, sym, ap, subst, ◌∙◌, arith, append_assoc, append-nil, inl, inr}
use Rattle.std.specs.List.{AllByRecursion}
use Rattle.std.proofs.Math.Seq.{take-length}
use Rattle.std.proofs.lemmas.Bool.{cases_lt, eqb-true, ltb-true, ltb-false, ne_eqb}
use Rattle.std.proofs.lemmas.List.{length-append, length-drop, length-take, length-take-le, nil_from_length, take-append-drop}
use Rattle.std.proofs.lemmas.List.Elements.{All-drop, All-take, All-weaker, recursion_from_All}
use Rattle.std.proofs.lemmas.List.Sums.{sum_by-append}
use Rattle.lake_bytes.specs.Hybrid.{hybrid_bytes}
use Rattle.lake_bytes.proofs.Callers.{AreRuns-hybrid_bytes}
use Rattle.row_core.specs.Conforms.{is_leaf_value}
use Rattle.shred.specs.Columns.{Column}
use Rattle.page_cells.specs.Levels.{AreLevels, width_of, present}
use Rattle.parquet_pages.specs.Pages.{ArePages, ChunkHolds, IsBody, IsPage, Leaf, from_place, highest, joined, no_cells, no_page, page}
use Rattle.page_cells.specs.Types.{physical_type, primitive_of}
use Rattle.page_writing.specs.Writing.{IsWhole, body_bytes, chunk_written, first_page, header_form, header_tree, level_bytes, other_pages, page_bytes, page_written, pages_written, plain_bytes}
use Rattle.parquet_footer.specs.declared.fault.FileFault.TheVariants.{TooLarge}
use Rattle.page_cells.specs.declared.types.LeafType.{LeafType}
use Rattle.page_writing.proofs.WrittenChunk.{Written, behind_bytes, next_page, with_page}
use Rattle.page_writing.proofs.WrittenHeader.{header_says, header_spelled}
use Rattle.page_writing.proofs.WrittenLevels.{hybrid_short}
use Rattle.page_writing.proofs.WrittenValues.{plain_written}
use Rattle.thrift_core.specs.Writing.{written}

-- ---- the levels

width_holds : (top : ℕ) → top ≤ 16 → top < 2 ^ width_of top
width_holds top fits = by_tests (eqb top 0) (ltb top 2) (ltb top 4) (ltb top 8) (ltb top 16) refl refl refl refl refl
  where
    by_tests : (none two four eight more : Bool) → eqb top 0 ≡ none → ltb top 2 ≡ two → ltb top 4 ≡ four
        → ltb top 8 ≡ eight → ltb top 16 ≡ more
        → top < 2 ^ cond none 0 (cond two 1 (cond four 2 (cond eight 3 (cond more 4 5))))
    by_tests true two four eight more a b c d e = omega (arith, eqb-true top 0 a)
    by_tests false true four eight more a b c d e = omega (arith, ltb-true top 2 b)
    by_tests false false true eight more a b c d e = omega (arith, ltb-true top 4 c)
    by_tests false false false true more a b c d e = omega (arith, ltb-true top 8 d)
    by_tests false false false false true a b c d e = omega (arith, ltb-true top 16 e)
    by_tests false false false false false a b c d e = omega arith

width_few : (top : ℕ) → width_of top ≤ 5
width_few top = by_tests (eqb top 0) (ltb top 2) (ltb top 4) (ltb top 8) (ltb top 16)
  where
    by_tests : (none two four eight more : Bool)
        → cond none 0 (cond two 1 (cond four 2 (cond eight 3 (cond more 4 5)))) ≤ 5
    by_tests true two four eight more = omega arith
    by_tests false true four eight more = omega arith
    by_tests false false true eight more = omega arith
    by_tests false false false true more = omega arith
    by_tests false false false false true = omega arith
    by_tests false false false false false = omega arith

zeros : (levels : List ℕ) → AllByRecursion (λ level. level ≤ 0) levels → levels ≡ replicate (length levels) 0
zeros [] all = refl
zeros (level ∷ levels) all =
    let none : level ≡ 0 = omega (arith, all.0) in
    ap (λ (n : ℕ). n ∷ levels) none ∙ ap (λ (t : List ℕ). 0 ∷ t) (zeros levels all.1)

levels_held : (top : ℕ) (levels : List ℕ) → top ≤ 16 → length levels ≤ 4096 → All (λ level. level ≤ top) levels
    → AreLevels top (level_bytes top levels) levels
unfolding level_bytes
levels_held zero levels fits few all = record {
  nothing = refl;
  zeros = zeros levels (recursion_from_All (λ level. level ≤ 0) levels all);
}
levels_held (suc top) levels fits few all =
    let width = width_of (suc top) in
    let hybrid = hybrid_bytes width levels in
    let short = hybrid_short width levels few (width_few (suc top)) in
    let holds = width_holds (suc top) fits in
    let told : eqb (suc top) 0 ≡ false = ne_eqb (suc top) 0 (λ e. absurd (omega arith)) in
    record {
      hybrid = hybrid;
      size_fits = omega (arith, short);
      parts = rw told refl;
      held = record {
        front = hybrid;
        rest = [];
        all = levels;
        split = sym (append-nil hybrid);
        runs = AreRuns-hybrid_bytes width levels
            (All-weaker (λ level. level ≤ suc top) (λ level. level < 2 ^ width) (λ level h. omega arith) levels all)
            (omega arith);
        enough = omega arith;
        first = sym (take-length levels);
      };
      none_above = all;
    }

-- ---- a page

body_held : (l : Leaf) (c : Column) → highest l ≤ 16 → length c.levels ≤ 4096 → IsWhole l c
    → IsBody l (body_bytes l.leaf_type (highest l) c) c
body_held l c fits few w = record {
  level_bytes = level_bytes (highest l) c.levels;
  value_bytes = plain_bytes (physical_type l.leaf_type) c.values;
  parts = refl;
  levels = levels_held (highest l) c.levels fits few w.none_above;
  values = plain_written l.leaf_type c.values w.of_type;
  value_each = w.value_each;
}

-- a page that is written: its bytes, and that its body isn't too long
record Passes (type : LeafType) (top : ℕ) (c : Column) (bytes : List ℕ) : Type 0 where
  short : length (body_bytes type top c) ≤ 67108864
  is : bytes ≡ page_bytes type top c

same_ok : (a b : List ℕ) → ◌≡◌ {A = Written} (Ok a) (Ok b) → b ≡ a
same_ok a b e = cc

passes : (type : LeafType) (top : ℕ) (c : Column) (bytes : List ℕ) → page_written type top c ≡ Ok bytes
    → Passes type top c bytes
unfolding page_written
passes type top c bytes e = by_test (ltb 67108864 (length (body_bytes type top c))) refl e
  where
    by_test : (long : Bool) → ltb 67108864 (length (body_bytes type top c)) ≡ long
        → ◌≡◌ {A = Written} (cond long (Err TooLarge) (Ok (page_bytes type top c))) (Ok bytes) → Passes type top c bytes
    by_test true is e = let bad : ◌≡◌ {A = Written} (Err TooLarge) (Ok bytes) = e in absurd cc
    by_test false is e = record {
      short = ltb-false 67108864 (length (body_bytes type top c)) is;
      is = same_ok (page_bytes type top c) bytes e;
    }

page_held : (l : Leaf) (c : Column) (before bytes behind : List ℕ) → highest l ≤ 16 → length c.levels ≤ 4096
    → IsWhole l c → page_written l.leaf_type (highest l) c ≡ Ok bytes
    → IsPage l (before ++ (bytes ++ behind)) (length before) c (length before + length bytes)
page_held l c before bytes behind fits few w e =
    let p = passes l.leaf_type (highest l) c bytes e in
    let body = body_bytes l.leaf_type (highest l) c in
    let tree = header_tree (length c.levels) (length body) in
    let header = written header_form tree in
    record {
      before = before;
      header = header;
      body = body;
      behind = behind;
      parts = ap (λ (t : List ℕ). before ++ (t ++ behind)) p.is
          ∙ ap (λ (t : List ℕ). before ++ t) (append_assoc header body behind);
      tree = tree;
      spelled = header_spelled (length c.levels) (length body) (omega arith) (omega (arith, p.short));
      says = header_says l (length c.levels) (length body);
      holds = body_held l c fits few w;
      begins = refl;
      ends = omega (arith, ap length p.is, length-append header body);
    }

-- ---- parts of a whole column

present-split : (top n : ℕ) (levels : List ℕ)
    → present top (take n levels) + present top (drop n levels) ≡ present top levels
present-split top n levels =
    sym (sum_by-append (λ level. cond (eqb level top) 1 0) (take n levels) (drop n levels))
    ∙ ap (present top) (take-append-drop n levels)

first_whole : (l : Leaf) (c : Column) → IsWhole l c → IsWhole l (first_page (highest l) c)
first_whole l c w =
    let split = present-split (highest l) 4096 c.levels in
    let count = present (highest l) (take 4096 c.levels) in
    record {
      none_above = All-take (λ level. level ≤ highest l) 4096 c.levels w.none_above;
      value_each = sym (length-take-le count c.values (omega (arith, w.value_each)));
      of_type = All-take (λ v. is_leaf_value (primitive_of l.leaf_type) v ≡ true) count c.values w.of_type;
    }

others_whole : (l : Leaf) (c : Column) → IsWhole l c → IsWhole l (other_pages (highest l) c)
others_whole l c w =
    let split = present-split (highest l) 4096 c.levels in
    let count = present (highest l) (take 4096 c.levels) in
    record {
      none_above = All-drop (λ level. level ≤ highest l) 4096 c.levels w.none_above;
      value_each = omega (arith, w.value_each, length-drop count c.values);
      of_type = All-drop (λ v. is_leaf_value (primitive_of l.leaf_type) v ≡ true) count c.values w.of_type;
    }

parts_joined : (top : ℕ) (c : Column) → joined (first_page top c) (other_pages top c) ≡ c
parts_joined top c =
    rw (take-append-drop 4096 c.levels, take-append-drop (present top (take 4096 c.levels)) c.values) refl

nothing_whole : (l : Leaf) (c : Column) → IsWhole l c → length c.levels ≡ 0 → no_cells ≡ c
nothing_whole l c w none =
    let levels : c.levels ≡ [] = nil_from_length c.levels none in
    let values : c.values ≡ [] = nil_from_length c.values (sym w.value_each ∙ ap (present (highest l)) levels) in
    rw (levels, values) refl

-- ---- the pages

record Split (type : LeafType) (top most : ℕ) (c : Column) (bytes : List ℕ) : Type 0 where
  first : List ℕ
  others : List ℕ
  one : page_written type top (first_page top c) ≡ Ok first
  rest : pages_written most type top (other_pages top c) ≡ Ok others
  is : bytes ≡ first ++ others

split_pages : (type : LeafType) (top most : ℕ) (c : Column) (bytes : List ℕ) → 0 < length c.levels
    → length c.levels ≤ suc most → pages_written (suc most) type top c ≡ Ok bytes → Split type top most c bytes
split_pages type top most c bytes some few e =
    let one : suc most - 1 ≡ most = omega arith in
    let step : with_page most type top c (page_written type top (first_page top c)) ≡ Ok bytes =
    ap (λ (n : ℕ). with_page n type top c (page_written type top (first_page top c))) (sym one)
    ∙ sym (next_page (suc most) type top c some few) ∙ e in
    by_first (page_written type top (first_page top c)) refl step
  where
    by_others : (first : List ℕ) (others : Written) → page_written type top (first_page top c) ≡ Ok first
        → pages_written most type top (other_pages top c) ≡ others → behind_bytes first others ≡ Ok bytes
        → Split type top most c bytes
    by_others first (Err fault) one is e = let bad : ◌≡◌ {A = Written} (Err fault) (Ok bytes) = e in absurd cc
    by_others first (Ok others) one is e =
        record { first = first; others = others; one = one; rest = is; is = same_ok (first ++ others) bytes e }

    by_first : (first : Written) → page_written type top (first_page top c) ≡ first
        → with_page most type top c first ≡ Ok bytes → Split type top most c bytes
    by_first (Err fault) is e = let bad : ◌≡◌ {A = Written} (Err fault) (Ok bytes) = e in absurd cc
    by_first (Ok first) is e = by_others first (pages_written most type top (other_pages top c)) is refl e

nothing_held : (l : Leaf) (c : Column) (given : List ℕ) (place : ℕ) → IsWhole l c → length c.levels ≡ 0
    → ArePages l given place c
nothing_held l c given place w none = subst (ArePages l given place) (nothing_whole l c w none) (no_page place)

-- a page in front, and the pages behind it
page_before : (l : Leaf) (c : Column) (before first others bytes behind : List ℕ) → bytes ≡ first ++ others
    → 0 < length c.levels
    → IsPage l (before ++ (first ++ (others ++ behind))) (length before) (first_page (highest l) c)
    (length before + length first)
    → ArePages l ((before ++ first) ++ (others ++ behind)) (length (before ++ first)) (other_pages (highest l) c)
    → ArePages l (before ++ (bytes ++ behind)) (length before) c
page_before l c before first others bytes behind is some one rest =
    let top = highest l in
    let given = before ++ (first ++ (others ++ behind)) in
    let same : given ≡ before ++ (bytes ++ behind) =
    ap (λ (t : List ℕ). before ++ t)
    (sym (append_assoc first others behind) ∙ ap (λ (t : List ℕ). t ++ behind) (sym is)) in
    let there : ArePages l given (length before + length first) (other_pages top c) =
    subst (λ (n : ℕ). ArePages l given n (other_pages top c)) (length-append before first)
    (subst (λ (g : List ℕ). ArePages l g (length (before ++ first)) (other_pages top c))
    (append_assoc before first (others ++ behind)) rest) in
    let joined_is = parts_joined top c in
    let any : 0 < length (joined (first_page top c) (other_pages top c)).levels =
    omega (arith, ap (λ (d : Column). length d.levels) joined_is) in
    subst (λ (g : List ℕ). ArePages l g (length before) c) same
    (subst (ArePages l given (length before)) joined_is
    (page (length before) (length before + length first) (first_page top c) (other_pages top c) one there any))

pages_held : (most : ℕ) (l : Leaf) (c : Column) (before bytes behind : List ℕ) → highest l ≤ 16 → IsWhole l c
    → length c.levels ≤ most → pages_written most l.leaf_type (highest l) c ≡ Ok bytes
    → ArePages l (before ++ (bytes ++ behind)) (length before) c
pages_held zero l c before bytes behind fits w few e =
    nothing_held l c (before ++ (bytes ++ behind)) (length before) w (omega arith)
pages_held (suc most) l c before bytes behind fits w few e =
    let top = highest l in
    elim (cases_lt 0 (length c.levels)) [
      | inl some ↦
          let s = split_pages l.leaf_type top most c bytes some few e in
          let one = page_held l (first_page top c) before s.first (s.others ++ behind) fits
          (omega (arith, length-take 4096 c.levels)) (first_whole l c w) s.one in
          let rest = pages_held most l (other_pages top c) (before ++ s.first) s.others behind fits (others_whole l c w)
          (omega (arith, length-drop 4096 c.levels)) s.rest in
          page_before l c before s.first s.others bytes behind s.is some one rest
      | inr none ↦ nothing_held l c (before ++ (bytes ++ behind)) (length before) w (omega arith)
    ]

pub written_held : (l : Leaf) (c : Column) (before bytes behind : List ℕ) → highest l ≤ 16 → IsWhole l c
    → chunk_written l.leaf_type (highest l) c ≡ Ok bytes → 4 ≤ length before
    → ChunkHolds l (before ++ (bytes ++ behind)) (pos (length before)) c
written_held l c before bytes behind fits w e four =
    from_place (length before) c refl four
    (pages_held (length c.levels) l c before bytes behind fits w (omega arith) e)
