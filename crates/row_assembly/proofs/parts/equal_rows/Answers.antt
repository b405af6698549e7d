use Rattle.std.proofs.Common.{◌≡◌, inl, inr, ℕ, ◌<◌, ◌≤◌, min, length, get_or, List, [], sym, ap, ◌∙◌, arith}
use Rattle.std.proofs.lemmas.Bool.{cases_lt}
use Rattle.std.proofs.lemmas.List.{length-map}
use Rattle.lake_bytes.specs.Hybrid.{values_of}
use Rattle.shred.specs.Columns.{Cell}
use Rattle.row_assembly.specs.Levels.{AreLong}
use Rattle.row_assembly.specs.Views.{level_view, level_views, reader_leaf, reader_leaves}
use Rattle.row_assembly.proofs.LevelLoops.{begins_equal, equal_on, element_at, none_at, set_same}
use Rattle.row_assembly.proofs.parts.equal_rows.Goals as goal

none_on : (rows count rest : ℕ) (most : ℕ) (css : List (List Cell)) (i : ℕ) (cs : List Cell) → rest ≡ min rows count → i < length css → cs ≡ get_or css i cs → (count ≡ 0 → cs ≡ []) → (rows ≡ 0 → 0 < most → (there : ℕ) → AreLong there css → there ≡ 0)
    → rest ≡ 0 → 0 < most → (there : ℕ) → AreLong there css → there ≡ 0
none_on rows count rest most css i cs is h at here so_far none some there long =
    elim (cases_lt 0 rows) [
      | inl more ↦ (let empty : count ≡ 0 = omega (arith, is, none, more) in none_at there css i cs long h at (here empty))
      | inr less ↦ (let no : rows ≡ 0 = omega (arith, less) in so_far no some there long)
    ]

pub loop-reader-preserved : goal.loop-reader-preserved
loop-reader-preserved c =
    let css = level_views c.args.readers.now in
    let now = c.loop-reader.readers in
    let i = c.loop-reader.reader-index in
    let x = c.reader-item.result in
    let y = c.to_next_run.new.self in
    let before = c.loop-reader.invariant in
    let below : i < length now = omega (arith, c.loop-reader.auto.readers, c.loop-reader-test.true) in
    let long = length-map c.args.readers.now level_view in
    let within : i < length css = omega (arith, long, c.loop-reader-test.true) in
    let kept : level_view y ≡ level_view x = c.to_next_run.ensures.same ∙ ap level_view (sym c.reader-item.is) in
    let mine = element_at level_view now css i x before.same below c.reader-item.is in
    let at : level_view y ≡ get_or css i (level_view y) = kept ∙ (mine ∙ ap (get_or css i) (sym kept)) in
    let is : c.min-rows.result ≡ min c.loop-reader.rows y.count = c.min-rows.ensures in
    let less : min c.loop-reader.rows y.count ≤ y.count = omega arith in
    let equal = equal_on css i c.loop-reader.rows y.count (level_view y) within at before.equal (begins_equal y.top y.level y.count (min c.loop-reader.rows y.count) (values_of y.rest.items) less) in
    record {
      same = set_same level_view now css i x y before.same below c.reader-item.is kept;
      leaves = set_same reader_leaf now (reader_leaves c.args.readers.now) i x y before.leaves below c.reader-item.is (c.to_next_run.ensures.leaf ∙ ap reader_leaf (sym c.reader-item.is));
      less = omega (arith, is, before.less);
      equal = rw is equal;
      none = none_on c.loop-reader.rows y.count c.min-rows.result c.args.most css i (level_view y) is within at c.to_next_run.ensures.none before.none;
    }
