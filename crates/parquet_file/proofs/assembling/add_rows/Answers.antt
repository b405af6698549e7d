use Rattle.std.proofs.Common.{◌≡◌, ◌-◌, ◌≤◌, ◌<◌, true, sym, ◌∙◌, arith}
use Rattle.std.proofs.lemmas.List.{length-map}
use Rattle.std.proofs.lemmas.Result.{err_from_is_err_and}
use Rattle.row_core.specs.Views.{row_views, value_view}
use Rattle.shred.specs.Views.{shape_view}
use Rattle.parquet_footer.specs.Outcome.{says}
use Rattle.parquet_file.specs.Internal.{is_flat}
use Rattle.parquet_file.proofs.RowsAtHand.{are_enough, left_are_even, left_levels, rows_begun, rows_done, rows_fail, rows_go_on, rows_stop}
use Rattle.parquet_file.proofs.assembling.add_rows.Goals as goal

pub loop-left-init : goal.loop-left-init
loop-left-init c = λ leaves given held same some all sound.
    let shape = shape_view c.args.shape.now in
    let old = row_views c.args.rows.now.items in
    rows_begun shape leaves given c.args.readers.now c.args.first c.args.most old c.args.count same held all sound

pub returns-then-wanted-eq0 : goal.returns-then-wanted-eq0
returns-then-wanted-eq0 c = λ leaves given held same some all sound.
    let flat : is_flat (shape_view c.args.shape.now) ≡ true = sym c.is_flat-is_flat.ensures ∙ c.if-is_flat.true in
    rows_stop (c.loop-left.invariant leaves given held same some all sound) same some flat c.if-wanted-eq0.true

-- not reached: some rows are left, so no column is without levels
pub returns-then-at_hand-eq0 : goal.returns-then-at_hand-eq0
returns-then-at_hand-eq0 c = λ leaves given held same some all sound.
    let k = c.loop-left.invariant leaves given held same some all sound in
    let hand = c.in_ok-at_hand.ensures.at_hand leaves k.columns k.held in
    let wanted : 0 < c.min.result = omega (arith, c.min.ensures, c.loop-left-test.true) in
    let more = hand.2 wanted (left_levels k same some c.loop-left-test.true) in
    absurd (omega (arith, more, c.if-at_hand-eq0.true))

pub returns-in_err-add_rows_at_hand : goal.returns-in_err-add_rows_at_hand
returns-in_err-add_rows_at_hand c = λ leaves given held same some all sound.
    let n = c.in_ok-at_hand.at_hand in
    let few : n ≤ c.loop-left.left = omega (arith, c.in_ok-at_hand.ensures.few, c.min.ensures) in
    let k = c.loop-left.invariant leaves given held same some all sound in
    let hand = c.in_ok-at_hand.ensures.at_hand leaves k.columns k.held in
    let even = left_are_even k same some in
    let enough = are_enough k same some n few in
    let said = c.in_err-add_rows_at_hand.ensures.added leaves k.columns hand.0 hand.1 same even enough in
    let e = c.in_err-add_rows_at_hand.field-0.0 in
    let from = c.from_residual-in_err-add_rows_at_hand in
    let p = err_from_is_err_and from.result from.ensures.1 in
    rw (p.1, p.2) (rows_fail k same some n few (says e) said)

pub loop-left-preserved : goal.loop-left-preserved
loop-left-preserved c = λ leaves given held same some all sound.
    let n = c.in_ok-at_hand.at_hand in
    let few : n ≤ c.loop-left.left = omega (arith, c.in_ok-at_hand.ensures.few, c.min.ensures) in
    let k = c.loop-left.invariant leaves given held same some all sound in
    let hand = c.in_ok-at_hand.ensures.at_hand leaves k.columns k.held in
    let even = left_are_even k same some in
    let enough = are_enough k same some n few in
    let added = c.in_ok-add_rows_at_hand.ensures.added leaves k.columns hand.0 hand.1 same even enough in
    let behind = c.in_ok-add_rows_at_hand.ensures.left leaves k.columns hand.0 hand.1 in
    let old = c.loop-left.rows.items in
    let new = c.add_rows_at_hand.new.rows.items in
    let left = c.loop-left.left - n in
    let skip = c.saturating_sub-skip in
    let wanted = c.saturating_sub-wanted in
    let grown = c.saturating_sub.ensures in
    rows_go_on k same some n few c.add_rows_at_hand.new.readers (row_views new) left skip.result wanted.result behind
    added
    (omega arith)
    (omega (arith, skip.ensures))
    (omega (
      arith,
      length-map new value_view,
      length-map old value_view,
      c.len.ensures,
      c.len-before.ensures,
      grown,
      wanted.ensures,
    ))

pub returns : goal.returns
returns c = λ leaves given held same some all sound.
    let none = c.loop-left-test.false in
    rows_done (c.loop-left.invariant leaves given held same some all sound) same some (omega (arith, none))
