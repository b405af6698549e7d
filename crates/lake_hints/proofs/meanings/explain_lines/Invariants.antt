use Rattle.std.proofs.Common.{option_map}
use Rattle.script_lines.specs.Splitting.{lines_left}
use Rattle.lake_hints.specs.Meanings.{reply_lines}
use Rattle.lake_hints.proofs.MeaningLemmas.{SoFar, bytes_left}
use Rattle.lake_hints.proofs.meanings.explain_lines.Given as goal

abbrev pub invariant-loop-rest : goal.invariant-loop-rest
invariant-loop-rest g l = record {
  so_far : SoFar g.E.Write.contents (reply_lines l.fn.text) l.fn.err l.err (lines_left (option_map (λ text. text.now) l.rest));
}

abbrev pub decreases-loop-rest : goal.decreases-loop-rest
decreases-loop-rest g l = bytes_left l.rest
