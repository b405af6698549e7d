use Rattle.std.specs.Prelude.{◌==◌}
use Rattle.lake_bytes.proofs.ReaderLemmas.{FindsOn}
use Rattle.lake_bytes.proofs.hybrid_reader.HybridReader.pass.Given as goal

abbrev pub invariant-loop-wanted : goal.invariant-loop-wanted
invariant-loop-wanted l = FindsOn (λ x. x == l.value) l.count l.fn.self l.wanted l.found l.self

abbrev pub decreases-loop-wanted : goal.decreases-loop-wanted
decreases-loop-wanted l = l.wanted
