use Rattle.std.proofs.Common.{List, ℕ, ◌+◌, ◌++◌, ◌∙◌, ap, append_assoc}
use Rattle.lake_bytes.specs.Hybrid.{run_bytes}
use Rattle.lake_bytes.proofs.GroupedLemmas.{nothing_more, run_written}
use Rattle.lake_bytes.proofs.hybrid_writing.push_runs.Goals as goal

pub loop-value-preserved : goal.loop-value-preserved
loop-value-preserved c =
    let keeps = c.loop-value.invariant.keeps in
    let bytes =
    run_bytes c.args.width (record { value = c.in-Some.value.now; count = 1 + c.equal_in_front-more.result }) in
    record {
      ok = run_written c.args.width c.in-Some.value.now c.equal_in_front-more.result c.in-Some.behind.now _ _ _ _ _
          c.in-Some.ensures.cases.0 c.equal_in_front-more.ensures.count c.split_at.ensures.back
          c.loop-value.invariant.ok c.in_ok-push_run.ensures.ok;
      keeps = (
        keeps.0 ++ bytes,
        c.in_ok-push_run.ensures.ok ∙ ap (λ (t : List ℕ). t ++ bytes) keeps.1
            ∙ append_assoc c.args.out.now.items keeps.0 bytes,
      );
    }

pub returns-clause-ok : goal.returns-clause-ok
returns-clause-ok c =
    nothing_more c.args.width c.loop-value.rest.now _ _ c.in_default.ensures.cases c.loop-value.invariant.ok
