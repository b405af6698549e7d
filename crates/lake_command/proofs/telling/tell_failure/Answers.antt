use Rattle.lake_command.proofs.EndingLemmas.{failure_told}
use Rattle.lake_command.proofs.telling.tell_failure.Goals as goal

pub returns-clause-ended : goal.returns-clause-ended
returns-clause-ended g c = λ work rows.
    failure_told g.W.Write.contents g.E.Write.contents work rows c.args.failure.now c.args.output.now c.tell_line.new.output c.args.err.now c.tell_line.new.err c.explain_failure.new.err _
    c.in_default.ensures.told c.explain_failure.ensures c.status_of.ensures c.is_want_of_memory-is_short.ensures
