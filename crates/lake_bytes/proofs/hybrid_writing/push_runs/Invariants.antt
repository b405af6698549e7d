use Rattle.std.proofs.Common.{◌≡◌, ◌++◌, List, ℕ, length}
use Rattle.lake_bytes.specs.Hybrid.{hybrid_bytes}
use Rattle.lake_bytes.proofs.hybrid_writing.push_runs.Given as goal

abbrev pub invariant-loop-value : goal.invariant-loop-value
invariant-loop-value l = record {
  ok : l.out.items ++ hybrid_bytes l.width l.rest ≡ l.fn.out.items ++ hybrid_bytes l.width l.values;
  keeps : (more : List ℕ) × (l.out.items ≡ l.fn.out.items ++ more);
}

abbrev pub decreases-loop-value : goal.decreases-loop-value
decreases-loop-value l = length l.rest
