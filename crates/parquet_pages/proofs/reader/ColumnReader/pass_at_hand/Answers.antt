use Rattle.std.proofs.Common.{◌≡◌, ◌<◌, ◌^◌, ◌==◌, ℕ, List, length, take, drop, refl, ap, subst, ◌∙◌, arith}
use Rattle.std.specs.Prelude.{count_by}
use Rattle.page_cells.specs.Left.{HasValuesLeft}
use Rattle.page_cells.specs.Levels.{present}
use Rattle.parquet_pages.specs.Held.{AreLeft}
use Rattle.parquet_pages.specs.Pages.{Leaf, highest}
use Rattle.parquet_pages.specs.Views.{leaf_view}
use Rattle.parquet_pages.specs.declared.reader.ColumnReader.{ColumnReader}
use Rattle.shred.specs.Columns.{Column}
use Rattle.parquet_pages.proofs.HeldCells.{front_few}
use Rattle.parquet_pages.proofs.PassedCells.{left_behind}
use Rattle.parquet_pages.proofs.reader.ColumnReader.pass_at_hand.Goals as goal

-- how many of the cells that are passed have a value
passed_is : (l : Leaf) (r : ColumnReader) (cells told n : ℕ) (c : Column) (left : AreLeft l r c) → r.count < 2 ^ 64
    → told ≡ highest (leaf_view r.leaf)
    → (length r.levels < 2 ^ 64 → n ≡ count_by (λ level. level == told) (take cells r.levels))
    → n ≡ present (highest l) (take cells left.here.levels)
passed_is l r cells told n c left fits top counted =
    let held = left.held in
    let few : length r.levels < 2 ^ 64 = omega (arith, fits, held.counted, ap length held.levels) in
    counted few ∙ ap (λ (m : ℕ). present m (take cells r.levels)) (top ∙ ap highest held.leaf)
    ∙ ap (λ (levels : List ℕ). present (highest l) (take cells levels)) held.levels

pub returns-in_err-pass : goal.returns-in_err-pass
returns-in_err-pass c = record {
  passed = λ l col left less.
      let r = c.args.self.now in
      let here = left.here in
      let is = passed_is l r c.args.cells c.highest.result c.pass-present.result col left (omega arith) c.highest.ensures
      c.pass-present.ensures.found in
      let few = front_few (highest l) c.args.cells here left.held.value_each in
      let found = c.in_err-pass.ensures l.leaf_type here.values left.held.values (omega (arith, is, few)) in
      let never = found.0 in
      absurd cc;
}

pub returns : goal.returns
returns c = record {
  passed = λ l col left less.
      let r = c.args.self.now in
      let here = left.here in
      let is = passed_is l r c.args.cells c.highest.result c.pass-present.result col left (omega arith) c.highest.ensures
      c.pass-present.ensures.found in
      let few = front_few (highest l) c.args.cells here left.held.value_each in
      let behind : HasValuesLeft l.leaf_type c.pass.new.self
      (drop (present (highest l) (take c.args.cells here.levels)) here.values) =
      subst (λ (n : ℕ). HasValuesLeft l.leaf_type c.pass.new.self (drop n here.values)) is
      (c.in_ok-pass.ensures l.leaf_type here.values left.held.values (omega (arith, is, few))).1 in (
        refl,
        left_behind l r _ c.args.cells col left less refl refl refl refl c.saturating_sub-self.ensures
            c.pass-present.ensures.left behind,
      );
}
