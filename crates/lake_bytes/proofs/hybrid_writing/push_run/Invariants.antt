use Rattle.std.proofs.Common.{◌≡◌, ◌-◌, ◌++◌, List, ℕ}
use Rattle.lake_bytes.specs.Hybrid.{bytes_for, low_bytes, run_bytes}
use Rattle.lake_bytes.proofs.hybrid_writing.push_run.Given as goal

abbrev pub invariant-loop-index : goal.invariant-loop-index
invariant-loop-index l = record {
  ok : l.out.items ++ low_bytes (bytes_for l.width - l._index) l.left ≡ l.fn.out.items ++ run_bytes l.width l.fn.run;
  keeps : (more : List ℕ) × (l.out.items ≡ l.fn.out.items ++ more);
}
