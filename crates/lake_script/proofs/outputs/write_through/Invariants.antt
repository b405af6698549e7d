use Rattle.std.proofs.Common.{length}
use Rattle.lake_script.proofs.StreamLemmas.{Towards}
use Rattle.lake_script.proofs.outputs.write_through.Given as goal

abbrev pub invariant-loop-rest : goal.invariant-loop-rest
invariant-loop-rest g l = Towards (g.W.Write.contents l.fn.writer) (g.W.Write.contents l.writer) l.rest l.bytes

abbrev pub decreases-loop-rest : goal.decreases-loop-rest
decreases-loop-rest g l = length l.rest
