use Rattle.lake_bytes.specs.Hybrid.{values_of}
use Rattle.lake_bytes.proofs.ReaderLemmas.{TakesOn}
use Rattle.lake_bytes.proofs.hybrid_reader.HybridReader.take.Given as goal

abbrev pub invariant-loop-wanted : goal.invariant-loop-wanted
invariant-loop-wanted l = TakesOn l.count l.fn.self l.wanted (values_of l.runs.items) l.self

abbrev pub decreases-loop-wanted : goal.decreases-loop-wanted
decreases-loop-wanted l = l.wanted
