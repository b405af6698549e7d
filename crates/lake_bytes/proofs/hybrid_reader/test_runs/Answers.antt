use Rattle.std.proofs.Common.{◌≡◌, Err, ◌∙◌, refl, sym, ap, arith, rules}
use Rattle.lake_bytes.specs.Hybrid.{hybrid_at}
use Rattle.lake_bytes.specs.declared.fault.ByteFault.{ByteFault}
use Rattle.lake_bytes.proofs.HybridLemmas.{all_read, run_read, run_refused}
use Rattle.lake_bytes.proofs.RunLemmas.{done}
use Rattle.lake_bytes.proofs.hybrid_reader.test_runs.Goals as goal

pub returns-in_err-wanted : goal.returns-in_err-wanted
returns-in_err-wanted c =
    let l = c.loop-wanted.invariant in
    let fault : ByteFault = c.in_err-wanted.field-0.0 in
    let said : hybrid_at c.args.width c.args.count c.args.bytes.now ≡ Err fault = run_refused c.args.width c.loop-wanted.wanted c.loop-wanted.ahead l.0
    (hybrid_at c.args.width c.args.count c.args.bytes.now) fault c.loop-wanted-test.true
    (c.in_err-wanted.ensures.refused fault refl) l.1 in
    search rules

pub loop-wanted-preserved : goal.loop-wanted-preserved
loop-wanted-preserved c =
    let l = c.loop-wanted.invariant in
    let b = c.in_ok-wanted.ensures.given in (
      _,
      run_read c.args.width c.loop-wanted.wanted c.in_ok-wanted.field-0.count c.loop-wanted.ahead l.0 b.values
          c.begin_run.new.ahead (hybrid_at c.args.width c.args.count c.args.bytes.now) c.loop-wanted-test.true
          b.some b.counted b.read l.1,
    )

pub returns-clause-found : goal.returns-clause-found
returns-clause-found c =
    let l = c.loop-wanted.invariant in (
      l.0,
      all_read c.args.width c.loop-wanted.wanted c.loop-wanted.ahead l.0
          (hybrid_at c.args.width c.args.count c.args.bytes.now) (omega (arith, c.loop-wanted-test.false)) l.1
          ∙ ap (done l.0) (sym c.left.ensures),
    )
