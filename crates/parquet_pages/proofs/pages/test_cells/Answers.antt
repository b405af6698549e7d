use Rattle.std.proofs.Common.{◌≡◌, ◌≤◌, ◌||◌, not, eqb, ltb, ℕ, Bool, length, true, false, refl, sym, ap, ◌∙◌, arith}
use Rattle.std.specs.List.{list_all}
use Rattle.std.proofs.lemmas.Bool.{lt-ltb, le-ltb}
use Rattle.row_core.specs.Conforms.{is_leaf_value}
use Rattle.shred.specs.Columns.{Column}
use Rattle.parquet_pages.specs.Pages.{Leaf}
use Rattle.page_cells.specs.Levels.{may_stand}
use Rattle.page_cells.specs.Plain.{plain_at}
use Rattle.parquet_pages.specs.Reading.{has_mismatch}
use Rattle.page_cells.specs.Types.{primitive_of}
use Rattle.parquet_pages.specs.Views.{leaf_view}
use Rattle.parquet_pages.proofs.CodePages.{tested_long, tested_count, tested_texts, tested_mismatch, tested_fine}
use Rattle.parquet_pages.proofs.pages.test_cells.Goals as goal
use Rattle.parquet_pages.proofs.pages.test_cells.Goals.{then-not-is_empty-via-then-not-is_empty, then-not-is_empty-via-else-not-is_empty+then-page-left, then-not-nulls_may_stand-via-then-not-nulls_may_stand, then-not-nulls_may_stand-via-else-not-nulls_may_stand+then-not-are_in_range}

either : (a b : Bool) → b ≡ true → (a || b) ≡ true
either true b h = refl
either false b h = h

-- a page that ends its body and isn't over what is left
whole : (empty : Bool) (left count : ℕ) → empty ≡ true → (count ≤ left) → (not empty || ltb left count) ≡ false
whole empty left count is le = rw (is, le-ltb left count le) refl

mismatch_levels : (l : Leaf) (c : Column) → list_all (may_stand l.nullable) c.levels ≡ false → has_mismatch l c ≡ true
mismatch_levels l c h = rw h refl

mismatch_values : (l : Leaf) (c : Column) → list_all (is_leaf_value (primitive_of l.leaf_type)) c.values ≡ false
    → has_mismatch l c ≡ true
mismatch_values l c h = rw h (either (not (list_all (may_stand l.nullable) c.levels)) true refl)

no_mismatch : (l : Leaf) (c : Column) → list_all (may_stand l.nullable) c.levels ≡ true
    → list_all (is_leaf_value (primitive_of l.leaf_type)) c.values ≡ true → has_mismatch l c ≡ false
no_mismatch l c h k = rw (h, k) refl

pub returns-then-has_long : goal.returns-then-has_long
returns-then-has_long c col cells told long =
    tested_long (leaf_view c.args.leaf.now) c.args.left col c.args.behind.now (sym c.if-has_long.true ∙ long)

pub returns-then-not-is_empty : goal.returns-then-not-is_empty
returns-then-not-is_empty c col cells told long =
    let over : (not (eqb (length c.args.behind.now) 0) || ltb c.args.left (length col.levels)) ≡ true =
    elim c.then-not-is_empty.branch [
      | then-not-is_empty-via-then-not-is_empty w ↦
          let none : eqb (length c.args.behind.now) 0 ≡ false = sym c.is_empty.ensures ∙ w.if-not-is_empty.true in
          rw none refl
      | then-not-is_empty-via-else-not-is_empty+then-page-left w ↦
          either (not (eqb (length c.args.behind.now) 0)) (ltb c.args.left (length col.levels))
          (lt-ltb c.args.left (length col.levels) (omega (arith, w.if-page-left.true, cells.counted)))
    ] in
    tested_count (leaf_view c.args.leaf.now) c.args.left col c.args.behind.now (sym c.if-has_long.false ∙ long) over

pub returns-then-not-are_proper : goal.returns-then-not-are_proper
returns-then-not-are_proper c col cells told long =
    let l = leaf_view c.args.leaf.now in
    let there = ap (λ (n : ℕ). plain_at l.leaf_type n c.args.page.now.values.now) cells.present_each ∙ cells.values in
    let fits = whole (eqb (length c.args.behind.now) 0) c.args.left (length col.levels)
    (sym c.is_empty.ensures ∙ c.if-not-is_empty.false) (omega (arith, cells.counted, c.if-page-left.false)) in
    tested_texts l c.args.left col c.args.behind.now (sym c.if-has_long.false ∙ long) fits
    (sym (c.are_proper.ensures col.values c.args.behind.now there) ∙ c.if-not-are_proper.true)

pub returns-then-not-nulls_may_stand : goal.returns-then-not-nulls_may_stand
returns-then-not-nulls_may_stand c col cells told long =
    let l = leaf_view c.args.leaf.now in
    let there = ap (λ (n : ℕ). plain_at l.leaf_type n c.args.page.now.values.now) cells.present_each ∙ cells.values in
    let fits = whole (eqb (length c.args.behind.now) 0) c.args.left (length col.levels)
    (sym c.is_empty.ensures ∙ c.if-not-is_empty.false) (omega (arith, cells.counted, c.if-page-left.false)) in
    let proper = sym (c.are_proper.ensures col.values c.args.behind.now there) ∙ c.if-not-are_proper.false in
    let wrong : has_mismatch l col ≡ true =
    elim c.then-not-nulls_may_stand.branch [
      | then-not-nulls_may_stand-via-then-not-nulls_may_stand w ↦ mismatch_levels l col
          (sym told ∙ w.if-not-nulls_may_stand.true)
      | then-not-nulls_may_stand-via-else-not-nulls_may_stand+then-not-are_in_range w ↦
          mismatch_values l col (sym (w.are_in_range.ensures col.values c.args.behind.now there
          (sym long ∙ c.if-has_long.false)) ∙ w.if-not-are_in_range.true)
    ] in
    tested_mismatch l c.args.left col c.args.behind.now (sym c.if-has_long.false ∙ long) fits proper wrong

pub returns : goal.returns
returns c col cells told long =
    let l = leaf_view c.args.leaf.now in
    let there = ap (λ (n : ℕ). plain_at l.leaf_type n c.args.page.now.values.now) cells.present_each ∙ cells.values in
    let fits = whole (eqb (length c.args.behind.now) 0) c.args.left (length col.levels)
    (sym c.is_empty.ensures ∙ c.if-not-is_empty.false) (omega (arith, cells.counted, c.if-page-left.false)) in
    let proper = sym (c.are_proper.ensures col.values c.args.behind.now there) ∙ c.if-not-are_proper.false in
    let in_range = sym (c.are_in_range.ensures col.values c.args.behind.now there (sym long ∙ c.if-has_long.false))
    ∙ c.if-not-are_in_range.false in
    tested_fine l c.args.left col c.args.behind.now (sym c.if-has_long.false ∙ long) fits proper
    (no_mismatch l col (sym told ∙ c.if-not-nulls_may_stand.false) in_range)
