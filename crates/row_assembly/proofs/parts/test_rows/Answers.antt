use Rattle.std.proofs.Common.{◌≡◌, ◌==◌, ℕ, false, ◌+◌, ◌-◌, ◌<◌, ◌≤◌, min, length, map, drop, Ok, sym, ap, subst, ◌∙◌, arith}
use Rattle.std.proofs.lemmas.Bool.Decides.{nat_tests}
use Rattle.std.proofs.lemmas.List.{length-map}
use Rattle.std.proofs.lemmas.Result.{err_from_is_err_and}
use Rattle.outcomes.proofs.Callers.{said_too}
use Rattle.shred.specs.Views.{shape_view}
use Rattle.row_assembly.specs.Assembly.{heads}
use Rattle.row_assembly.specs.Faults.{says}
use Rattle.row_assembly.specs.Levels.{row_tested, tested, rows_left, AreLong}
use Rattle.row_assembly.specs.Views.{level_view, level_views}
use Rattle.row_assembly.proofs.Mismatched.{drop_none}
use Rattle.row_assembly.proofs.RowParts.{dropped_none, dropped_twice, left_long, tests_fail, tests_on}
use Rattle.row_assembly.proofs.parts.test_rows.Goals as goal

some_readers : (n m : ℕ) → false ≡ (n == 0) → m ≡ n → 0 < m
some_readers n m h same = let more : 0 < n = grind (arith, nat_tests) in omega (arith, more, same)

pub returns-then-equal-eq0-clause-tested : goal.returns-then-equal-eq0-clause-tested
returns-then-equal-eq0-clause-tested c leaves long =
    let s = shape_view c.args.shape.now in
    let css = level_views c.loop-left.readers in
    let before = c.loop-left.invariant.left long in
    let none = c.equal_rows-equal.ensures.none c.if-equal-eq0.true c.loop-left-test.true (rows_left css) before.long in
    let no : min c.loop-left.left (rows_left css) ≡ 0 = omega (arith, none) in
    sym (c.loop-left.invariant.tested leaves long) ∙ ap (λ n. tested s n css) no

pub returns-then-equal-eq0-clause-left : goal.returns-then-equal-eq0-clause-left
returns-then-equal-eq0-clause-left c long =
    let css = level_views c.loop-left.readers in
    let before = c.loop-left.invariant.left long in
    let none = c.equal_rows-equal.ensures.none c.if-equal-eq0.true c.loop-left-test.true (rows_left css) before.long in
    c.equal_rows-equal.ensures.same ∙ (sym (dropped_none c.loop-left.left css (subst (λ n. AreLong n css) none before.long)) ∙ before.passed)

pub returns-in_err-test_row-clause-tested : goal.returns-in_err-test_row-clause-tested
returns-in_err-test_row-clause-tested c leaves long =
    let p = err_from_is_err_and c.from_residual-in_err-test_row.result c.from_residual-in_err-test_row.ensures.1 in
    let s = shape_view c.args.shape.now in
    let css = level_views c.loop-left.readers in
    let same = c.equal_rows-equal.ensures.same in
    let these = c.equal_rows-equal.ensures.leaves ∙ (c.loop-left.invariant.leaves ∙ leaves) in
    let counted = length-map c.loop-left.readers level_view in
    let some : 0 < length css = some_readers (length c.loop-left.readers) (length css) c.if-is_empty.ensures counted in
    let more : 0 < c.equal_rows-equal.result = omega (arith, c.if-equal-eq0.false) in
    rw (p.1, p.2) (said_too (says c.in_err-test_row.field-0.0) (row_tested s (heads (level_views c.equal_rows-equal.new.readers))) _
    (λ e h. sym (c.loop-left.invariant.tested leaves long) ∙ tests_fail s c.loop-left.left c.equal_rows-equal.result css e more c.equal_rows-equal.ensures.less some c.equal_rows-equal.ensures.equal (ap (λ cs. row_tested s (heads cs)) (sym same) ∙ h)) (c.in_err-test_row.ensures.tested these))

pub loop-left-preserved : goal.loop-left-preserved
loop-left-preserved c =
    let s = shape_view c.args.shape.now in
    let css = level_views c.loop-left.readers in
    let left = c.loop-left.left in
    let equal = c.equal_rows-equal.result in
    let same = c.equal_rows-equal.ensures.same in
    let counted = length-map c.loop-left.readers level_view in
    let some : 0 < length css = some_readers (length c.loop-left.readers) (length css) c.if-is_empty.ensures counted in
    let more : 0 < equal = omega (arith, c.if-equal-eq0.false) in
    let less : equal ≤ left = c.equal_rows-equal.ensures.less in
    let now : level_views c.pass_rows.new.readers ≡ map (drop equal) css = c.pass_rows.ensures.left ∙ ap (map (drop equal)) (c.in_ok-test_row.ensures.same ∙ same) in
    let total : equal + (left - equal) ≡ left = omega (arith, less) in
    let these = c.equal_rows-equal.ensures.leaves ∙ c.loop-left.invariant.leaves in
    record {
      leaves = c.pass_rows.ensures.leaves ∙ (c.in_ok-test_row.ensures.leaves ∙ these);
      left = λ long. record {
        long = rw now (left_long equal css (c.loop-left.invariant.left long).long);
        passed = ap (map (drop (left - equal))) now ∙ (dropped_twice (left - equal) equal css ∙ (ap (λ n. map (drop n) css) total ∙ (c.loop-left.invariant.left long).passed));
      };
      tested = λ leaves long.
          let done : row_tested s (heads css) ≡ Ok tt = ap (λ cs. row_tested s (heads cs)) (sym same) ∙ c.in_ok-test_row.ensures.tested (these ∙ leaves) in
          rw now (tests_on s left equal css more less some c.equal_rows-equal.ensures.equal done ∙ c.loop-left.invariant.tested leaves long);
    }

pub returns-clause-left : goal.returns-clause-left
returns-clause-left c long =
    let css = level_views c.loop-left.readers in
    let before = c.loop-left.invariant.left long in
    let none : 0 ≡ c.loop-left.left = omega (arith, c.loop-left-test.false) in
    sym (drop_none css) ∙ (ap (λ n. map (drop n) css) none ∙ before.passed)
