use Rattle.std.proofs.Common.{◌≡◌, ℕ, zero, suc, [], take, refl, arith}
use Rattle.lake_bytes.specs.Hybrid.{hybrid_at, unpacked}
use Rattle.lake_bytes.specs.Tested.{values_left}
use Rattle.lake_bytes.specs.declared.hybrid_reader.RunValues.{RunValues}
use Rattle.lake_bytes.specs.declared.hybrid_reader.RunValues.TheVariants.{Equal, Packed}
use Rattle.lake_bytes.proofs.ReaderLemmas.{at_first_run, behind_first, fault_first, none_wanted, not_failed}
use Rattle.lake_bytes.proofs.hybrid_reader.fill.Goals as goal

no_values : (width count : ℕ) (values : RunValues) → count ≡ 0 → values_left width count values ≡ []
unfolding unpacked
no_values width zero (Equal value) is = refl
no_values width zero (Packed bits) is = refl
no_values width (suc count) values is = absurd (omega arith)

pub returns-then-run-gt0-clause-none : goal.returns-then-run-gt0-clause-none
returns-then-run-gt0-clause-none c none = absurd (omega (arith, none, c.if-run-gt0.true))

pub returns-then-wanted-eq0-clause-none : goal.returns-then-wanted-eq0-clause-none
returns-then-wanted-eq0-clause-none c none =
    rw (no_values c.args.width c.args.run.now.count c.args.run.now.values none, c.if-wanted-eq0.true, none_wanted c.args.width c.args.rest.now) refl

pub returns-in-Ok-clause-tested : goal.returns-in-Ok-clause-tested
returns-in-Ok-clause-tested c =
    let b = c.in-Ok.ensures.given in
    let first = at_first_run c.args.width c.args.wanted.now c.in-Ok.next.count c.args.rest.now b.values c.begin_run.new.ahead
    (omega (arith, c.if-wanted-eq0.false)) b.counted b.read in
    (behind_first (take c.args.wanted.now b.values) _ _ first c.requires.tested).0

pub returns-in-Ok-clause-same : goal.returns-in-Ok-clause-same
returns-in-Ok-clause-same c =
    let b = c.in-Ok.ensures.given in
    let first = at_first_run c.args.width c.args.wanted.now c.in-Ok.next.count c.args.rest.now b.values c.begin_run.new.ahead
    (omega (arith, c.if-wanted-eq0.false)) b.counted b.read in
    rw (no_values c.args.width c.args.run.now.count c.args.run.now.values (omega (arith, c.if-run-gt0.false)), b.wanted_of)
    (behind_first (take c.args.wanted.now b.values) _ _ first c.requires.tested).1

pub returns-in-Ok-clause-none : goal.returns-in-Ok-clause-none
returns-in-Ok-clause-none c none = absurd (omega (arith, none, c.in-Ok.ensures.given.some))

pub returns-in-Err-clause-tested : goal.returns-in-Err-clause-tested
returns-in-Err-clause-tested c = absurd (not_failed (hybrid_at c.args.width c.args.wanted.now c.args.rest.now) c.in-Err._fault (fault_first c.args.width c.args.wanted.now c.args.rest.now c.in-Err._fault
    (omega (arith, c.if-wanted-eq0.false)) (c.in-Err.ensures.refused c.in-Err._fault refl)) c.requires.tested)

pub returns-in-Err-clause-same : goal.returns-in-Err-clause-same
returns-in-Err-clause-same c = absurd (not_failed (hybrid_at c.args.width c.args.wanted.now c.args.rest.now) c.in-Err._fault (fault_first c.args.width c.args.wanted.now c.args.rest.now c.in-Err._fault
    (omega (arith, c.if-wanted-eq0.false)) (c.in-Err.ensures.refused c.in-Err._fault refl)) c.requires.tested)

pub returns-in-Err-clause-none : goal.returns-in-Err-clause-none
returns-in-Err-clause-none c none = absurd (not_failed (hybrid_at c.args.width c.args.wanted.now c.args.rest.now) c.in-Err._fault (fault_first c.args.width c.args.wanted.now c.args.rest.now c.in-Err._fault
    (omega (arith, c.if-wanted-eq0.false)) (c.in-Err.ensures.refused c.in-Err._fault refl)) c.requires.tested)
