use Rattle.std.proofs.Common.{arith}
use Rattle.lake_bytes.proofs.GroupedLemmas.{AreRuns-hybrid_bytes}
use Rattle.lake_bytes.proofs.hybrid_writing.hybrid_write.Goals as goal

pub returns-then-is_err-clause-runs : goal.returns-then-is_err-clause-runs
returns-then-is_err-clause-runs c =
    λ all. AreRuns-hybrid_bytes c.args.width c.args.values.now all (omega (arith, c.push_runs-written.ensures.few))

pub returns-else-is_err-clause-runs : goal.returns-else-is_err-clause-runs
returns-else-is_err-clause-runs c =
    λ all. AreRuns-hybrid_bytes c.args.width c.args.values.now all (omega (arith, c.push_runs-written.ensures.few))
