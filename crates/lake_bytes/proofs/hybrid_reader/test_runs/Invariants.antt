use Rattle.std.specs.Prelude.{List, ℕ}
use Rattle.lake_bytes.specs.Hybrid.{hybrid_at}
use Rattle.lake_bytes.proofs.HybridLemmas.{LeftToRead}
use Rattle.lake_bytes.proofs.hybrid_reader.test_runs.Given as goal

abbrev pub invariant-loop-wanted : goal.invariant-loop-wanted
invariant-loop-wanted l =
    (front : List ℕ) × LeftToRead l.width l.wanted l.ahead front (hybrid_at l.width l.count l.bytes)

abbrev pub decreases-loop-wanted : goal.decreases-loop-wanted
decreases-loop-wanted l = l.wanted
