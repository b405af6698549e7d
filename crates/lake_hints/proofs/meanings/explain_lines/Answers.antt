use Rattle.std.proofs.Common.{ℕ, List, subst}
use Rattle.lake_hints.specs.Meanings.{reply_lines}
use Rattle.lake_hints.proofs.MeaningLemmas.{SoFar, at_first, left_some, one_more}
use Rattle.lake_hints.proofs.meanings.explain_lines.Goals as goal

pub loop-rest-init : goal.loop-rest-init
loop-rest-init g c = record { so_far = at_first g.E.Write.contents (reply_lines c.args.text.now) c.args.err.now }

pub loop-rest-preserved : goal.loop-rest-preserved
loop-rest-preserved g c =
    let here = left_some c.loop-rest.rest c.in-Some.left _ c.in-Some.is c.first_line.ensures.lines in
    record {
      so_far = one_more g.E.Write.contents (reply_lines c.args.text.now) c.args.err.now c.loop-rest.err c.explain_line.new.err c.first_line.result.0.now _
          (subst (λ (left : List (List ℕ)). SoFar g.E.Write.contents (reply_lines c.args.text.now) c.args.err.now c.loop-rest.err left) here c.loop-rest.invariant.so_far) c.explain_line.ensures;
    }
