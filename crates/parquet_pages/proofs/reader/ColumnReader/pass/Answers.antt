use Rattle.std.proofs.Common.{◌-◌, ◌≤◌, arith}
use Rattle.std.proofs.lemmas.Result.{err_from_is_err_and}
use Rattle.parquet_pages.proofs.PassedCells.{fill_fails, pass_begun, pass_done, pass_ends, pass_goes_on}
use Rattle.parquet_pages.proofs.reader.ColumnReader.pass.Goals as goal

pub loop-wanted-init : goal.loop-wanted-init
loop-wanted-init c leaf column left = pass_begun leaf c.args.self.now c.args.count column left

pub returns-in_err-at_hand : goal.returns-in_err-at_hand
returns-in_err-at_hand c = record {
  passed = λ leaf column left.
      let known = c.loop-wanted.invariant leaf column left in
      let p = err_from_is_err_and c.from_residual.result c.from_residual.ensures.1 in
      let told = fill_fails leaf _ c.in_err-at_hand.field-0.0 c.fill.new.self
      (c.in_err-at_hand.ensures.filled leaf _ known.left) in
      rw (p.1, p.2, told) tt;
}

pub returns-then-at_hand-eq0 : goal.returns-then-at_hand-eq0
returns-then-at_hand-eq0 c = record {
  passed = λ leaf column left.
      let known = c.loop-wanted.invariant leaf column left in
      let filled = c.in_ok-at_hand.ensures.filled leaf _ known.left in
      pass_ends leaf c.fill.new.self c.args.count c.loop-wanted.wanted column filled.left
      (filled.none c.if-at_hand-eq0.true);
}

pub returns-in_err-pass_at_hand : goal.returns-in_err-pass_at_hand
returns-in_err-pass_at_hand c = record {
  passed = λ leaf column left.
      let known = c.loop-wanted.invariant leaf column left in
      let filled = c.in_ok-at_hand.ensures.filled leaf _ known.left in
      let less : c.min-cells.result ≤ c.fill.new.self.count = omega (arith, c.min-cells.ensures, filled.counted) in
      let found = c.in_err-pass_at_hand.ensures.passed leaf _ filled.left less in
      let never = found.0 in
      absurd cc;
}

pub loop-wanted-preserved : goal.loop-wanted-preserved
loop-wanted-preserved c leaf column left =
    let known = c.loop-wanted.invariant leaf column left in
    let filled = c.in_ok-at_hand.ensures.filled leaf _ known.left in
    let cells = c.min-cells.result in
    let less : c.min-cells.result ≤ c.fill.new.self.count = omega (arith, c.min-cells.ensures, filled.counted) in
    let passed = c.in_ok-pass_at_hand.ensures.passed leaf _ filled.left less in
    let few : cells ≤ c.loop-wanted.wanted = omega (arith, c.min-cells.ensures) in
    pass_goes_on leaf c.pass_at_hand.new.self c.args.count c.loop-wanted.wanted cells (c.loop-wanted.wanted - cells) column
    known.few few (omega arith) passed.1

pub returns : goal.returns
returns c = record {
  passed = λ leaf column left.
      pass_done leaf c.loop-wanted.self c.args.count c.loop-wanted.wanted column
      (omega (arith, c.loop-wanted-test.false)) (c.loop-wanted.invariant leaf column left);
}
