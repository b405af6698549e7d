use Rattle.std.proofs.Common.{◌≡◌, ◌<◌, length, min, subst, arith}
use Rattle.std.proofs.lemmas.List.{take_all}
use Rattle.std.proofs.lemmas.List.Elements.{recursion_from_All}
use Rattle.std.proofs.lemmas.Result.{err_from_is_err_and}
use Rattle.parquet_file.specs.File.{leaf_of}
use Rattle.parquet_file.specs.Internal.{AreAtHand, HasLevels}
use Rattle.parquet_file.proofs.ReadersLeft.{at_hand_on, not_filled, place_at, some_at_hand}
use Rattle.parquet_file.proofs.assembling.rows_at_hand.Goals as goal

pub loop-reader-preserved : goal.loop-reader-preserved
loop-reader-preserved c =
    let now = c.loop-reader.readers in
    let i = c.loop-reader.reader-index in
    let r = c.reader-item.result in
    let new = c.fill.new.self in
    let rows = c.loop-reader.rows in
    let count = c.in_ok-fill.field-0 in
    let fewer = c.min-rows.result in
    let is : fewer ≡ min rows count = c.min-rows.ensures in
    let below : i < length now = omega (arith, c.loop-reader.auto.readers, c.loop-reader-test.true) in
    record {
      few = omega (arith, is, c.loop-reader.invariant.few);
      at_hand = λ leaves given left.
          let before = c.loop-reader.invariant.at_hand leaves given left in
          let p = place_at leaves now given i r below before.0 in
          let filled = c.in_ok-fill.ensures.filled _ p.column p.left in (
            p.put new filled.left,
            at_hand_on rows count fewer now i new below is filled.counted before.1,
            λ some all.
                let more : 0 < rows = before.2 some all in
                let mine = some_at_hand count p.column filled.none
                (p.levels (recursion_from_All HasLevels given all)) in
                omega (arith, is, more, mine),
          );
    }

pub returns-in_err-fill-clause-at_hand : goal.returns-in_err-fill-clause-at_hand
returns-in_err-fill-clause-at_hand c leaves given left =
    let now = c.loop-reader.readers in
    let i = c.loop-reader.reader-index in
    let p = err_from_is_err_and c.from_residual.result c.from_residual.ensures.1 in
    let below : i < length now = omega (arith, c.loop-reader.auto.readers, c.loop-reader-test.true) in
    let before = c.loop-reader.invariant.at_hand leaves given left in
    let place = place_at leaves now given i c.reader-item.result below before.0 in
    let l = leaf_of place.leaf in
    let told = not_filled l place.column c.in_err-fill.field-0.0 c.fill.new.self
    (c.in_err-fill.ensures.filled l place.column place.left) in
    rw (p.1, p.2, told) tt

pub returns-clause-at_hand : goal.returns-clause-at_hand
returns-clause-at_hand c leaves given left =
    let now = c.loop-reader.readers in
    let done = c.loop-reader.invariant.at_hand leaves given left in
    let all = take_all c.loop-reader.reader-index now
    (omega (arith, c.loop-reader.auto.readers, c.loop-reader-test.false)) in
    (done.0, subst (AreAtHand c.loop-reader.rows) all done.1, done.2)
