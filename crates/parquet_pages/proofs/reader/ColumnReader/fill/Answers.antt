use Rattle.std.proofs.Common.{◌≡◌, ◌+◌, ◌-◌, ◌<◌, ◌⊎◌, inl, inr, length, sym, subst, arith}
use Rattle.std.proofs.lemmas.Result.{err_from_is_err_and}
use Rattle.parquet_pages.specs.Held.{AreLeft, HoldsPage}
use Rattle.parquet_pages.specs.declared.reader.ColumnReader.{ColumnReader}
use Rattle.parquet_pages.proofs.HeldPages.{filled, next_held, next_stands, not_filled, within_all}
use Rattle.parquet_pages.proofs.reader.ColumnReader.fill.Goals as goal
use Rattle.parquet_pages.proofs.reader.ColumnReader.fill.Goals.{then-self-gt0-via-then-self-gt0, then-self-gt0-via-else-self-gt0+then-self-eq0}

pub returns-then-self-gt0 : goal.returns-then-self-gt0
returns-then-self-gt0 c = record {
  filled = λ l column left.
      let r = c.loop-page.self in
      let given = c.args.self.now.bytes.now in
      let ends : r.count ≡ 0 → (r.left ≡ 0) ⊎ (length given - c.loop-page._page ≡ 0) = λ none.
      elim c.then-self-gt0.branch [
        | then-self-gt0-via-then-self-gt0 w ↦ absurd (omega (arith, w.if-self-gt0.true, none))
        | then-self-gt0-via-else-self-gt0+then-self-eq0 w ↦ inl (omega (arith, w.if-self-eq0.true))
      ] in
      filled given (length given - c.loop-page._page) l r column (omega arith) ends
      (c.loop-page.invariant l column left);
}

pub returns-in_err-next_page : goal.returns-in_err-next_page
returns-in_err-next_page c = record {
  filled = λ l column left.
      let r = c.loop-page.self in
      let given = c.args.self.now.bytes.now in
      let within = c.loop-page.invariant l column left in
      let none : r.count ≡ 0 = omega (arith, c.if-self-gt0.false) in
      let some : 0 < r.left = omega (arith, c.if-self-eq0.false) in
      let is = next_stands given (length given - c.loop-page._page) l r column none some within in
      let new = c.next_page.new.self in
      let p = err_from_is_err_and c.from_residual.result c.from_residual.ensures.1 in
      let kept : AreLeft l new column =
      subst (λ (reader : ColumnReader). AreLeft l reader column) (sym c.in_err-next_page.ensures.same)
      (within_all given (length given - c.loop-page._page) l r column (omega arith) within) in
      rw (p.1, p.2) (not_filled
      (λ (x : Unit {0}). HoldsPage l new is.page × (new.bytes.now ≡ r.bytes.now) × (new.place ≡ is.next)
      × (new.left ≡ r.left - length is.page.levels)) l column c.in_err-next_page.field-0.0 new
      (c.in_err-next_page.ensures.held l is.page is.next within.held.leaf is.stands) kept);
}

pub loop-page-preserved : goal.loop-page-preserved
loop-page-preserved c l column left =
    let r = c.loop-page.self in
    let given = c.args.self.now.bytes.now in
    let within = c.loop-page.invariant l column left in
    let none : r.count ≡ 0 = omega (arith, c.if-self-gt0.false) in
    let some : 0 < r.left = omega (arith, c.if-self-eq0.false) in
    let is = next_stands given (length given - c.loop-page._page) l r column none some within in
    let held = c.in_ok-next_page.ensures.held l is.page is.next within.held.leaf is.stands in
    next_held given (length given - c.loop-page._page) (length given - (c.loop-page._page + 1)) l r
    c.next_page.new.self column is (omega arith) held.0 held.1 held.2 held.3

pub returns : goal.returns
returns c = record {
  filled = λ l column left.
      let given = c.args.self.now.bytes.now in
      let last : length given - c.loop-page._page ≡ 0 = omega (arith, c.loop-page-test.false) in
      filled given (length given - c.loop-page._page) l c.loop-page.self column (omega arith) (λ none. inr last)
      (c.loop-page.invariant l column left);
}
