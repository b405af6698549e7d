use Rattle.std.proofs.Common.{◌≡◌, ℕ, ◌-◌, ◌<◌, length, refl, sym, ap, subst, ◌∙◌, arith}
use Rattle.std.proofs.lemmas.Result.{err_from_is_err_and}
use Rattle.parquet_pages.specs.Reading.{pages_at}
use Rattle.parquet_pages.specs.Views.{leaf_view}
use Rattle.parquet_pages.proofs.CodeChunks.{page_fits, test_ends, test_goes_on, test_missing, unkept}
use Rattle.parquet_pages.proofs.PassedCells.{StandFrom, mark_begun, mark_done, mark_goes_on, stand_begun, stand_goes_on}
use Rattle.parquet_pages.proofs.chunk.test_pages.Goals as goal

pub loop-page-init : goal.loop-page-init
loop-page-init c =
    let l = leaf_view c.args.leaf.now in
    let given = c.args.bytes.now in
    let read = pages_at (length given) l given c.args.place c.args.count in
    let all : length given - 0 ≡ length given = omega arith in
    record {
      so_far = ap (λ (n : ℕ). unkept (pages_at n l given c.args.place c.args.count)) all;
      here = subst (λ (n : ℕ). StandFrom l given n c.args.place c.args.count c.args.count read) (sym all)
          (stand_begun l given (length given) c.args.place c.args.count);
      marks = mark_begun l given c.args.place c.args.count c.args.before _ refl refl;
    }

pub returns-then-left-eq0 : goal.returns-then-left-eq0
returns-then-left-eq0 c =
    let l = leaf_view c.args.leaf.now in
    let given = c.args.bytes.now in
    let read = pages_at (length given) l given c.args.place c.args.count in
    mark_done l given (length given - c.loop-page._page) c.loop-page.place c.loop-page.left c.args.count c.args.before
    c.loop-page.mark read c.if-left-eq0.true c.loop-page.invariant.here c.loop-page.invariant.marks

pub returns-in_err-page : goal.returns-in_err-page
returns-in_err-page c =
    let l = leaf_view c.args.leaf.now in
    let given = c.args.bytes.now in
    let read = pages_at (length given) l given c.args.place c.args.count in
    let p = err_from_is_err_and c.from_residual.result c.from_residual.ensures.1 in
    let some : 0 < c.loop-page.left = omega (arith, c.if-left-eq0.false) in
    rw (p.1, p.2) (test_ends l given c.in_err-page.field-0.0 (length given) c.loop-page._page c.loop-page.place
    c.loop-page.left read c.loop-page-test.true some c.in_err-page.ensures.exact c.loop-page.invariant.so_far)

pub overflow_sub-left : goal.overflow_sub-left
overflow_sub-left c =
    let a = c.in_ok-page.ensures.exact in
    let fits = page_fits (leaf_view c.args.leaf.now) c.args.bytes.now c.loop-page.place c.loop-page.left a.0.0 a.0.1
    a.1 in
    omega (arith, fits.few, a.2.0.counted, c.num_values-left.ensures)

pub loop-page-preserved : goal.loop-page-preserved
loop-page-preserved c =
    let l = leaf_view c.args.leaf.now in
    let given = c.args.bytes.now in
    let read = pages_at (length given) l given c.args.place c.args.count in
    let i = c.loop-page._page in
    let place = c.loop-page.place in
    let left = c.loop-page.left in
    let known = c.loop-page.invariant in
    let a = c.in_ok-page.ensures.exact in
    let some : 0 < left = omega (arith, c.if-left-eq0.false) in
    let next : c.next-place.result ≡ a.0.1 = c.next-place.ensures ∙ a.2.1 in
    let count : c.num_values-left.result ≡ length a.0.0.levels = c.num_values-left.ensures ∙ a.2.0.counted in
    let later = c.later_mark-mark.ensures in
    record {
      so_far = rw (next, count) (test_goes_on l given (length given) i place left a.0.1 a.0.0 _ c.loop-page-test.true some
          a.1 known.so_far);
      here = rw (next, count) (stand_goes_on l given (length given) i place left a.0.1 c.args.count a.0.0 read
          c.loop-page-test.true some a.1 known.here);
      marks = mark_goes_on l given c.args.count c.args.before (length given - i) place left c.saturating_sub-passed.result
          c.loop-page.mark _ c.later_mark-mark.result read (omega arith) refl refl c.saturating_sub-passed.ensures
          later.later later.same known.here known.marks;
    }

pub returns-then-left-gt0 : goal.returns-then-left-gt0
returns-then-left-gt0 c =
    let l = leaf_view c.args.leaf.now in
    let given = c.args.bytes.now in
    let read = pages_at (length given) l given c.args.place c.args.count in
    rw c.into.ensures (test_missing l given (length given) c.loop-page._page c.loop-page.place c.loop-page.left read
    c.loop-page-test.false c.if-left-gt0.true c.loop-page.invariant.so_far)

pub returns : goal.returns
returns c =
    let l = leaf_view c.args.leaf.now in
    let given = c.args.bytes.now in
    let read = pages_at (length given) l given c.args.place c.args.count in
    mark_done l given (length given - c.loop-page._page) c.loop-page.place c.loop-page.left c.args.count c.args.before
    c.loop-page.mark read (omega (arith, c.if-left-gt0.false)) c.loop-page.invariant.here c.loop-page.invariant.marks
