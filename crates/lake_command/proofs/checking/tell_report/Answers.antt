use Rattle.std.proofs.Common.{ℕ, List, Option, subst}
use Rattle.lake_hints.specs.ErrorOutputs.{AreInTurn, TellsSome}
use Rattle.lake_hints.proofs.Callers.{told_in_turn}
use Rattle.lake_command.specs.Checks.{IsBeside, IsOfVerdict, code_of_verdict, status_of_verdict}
use Rattle.lake_command.specs.ErrorTexts.{IsMeaningIn}
use Rattle.lake_command.proofs.CheckLemmas.{told_then}
use Rattle.lake_command.proofs.checking.tell_report.Goals as goal

pub returns : goal.returns
returns g c =
    let report = c.args.report.now in
    let contents = g.E.Write.contents in
    let meaning = subst (λ (code : Option (List ℕ)). TellsSome contents (IsMeaningIn code) c.tell_verdict-exit.new.err c.explain_code.new.err) c.code_of_verdict.ensures c.explain_code.ensures in
    told_then g.W.Write.contents contents (IsOfVerdict report.verdict) (AreInTurn (IsMeaningIn (code_of_verdict report.verdict)) (IsBeside report.beside)) (status_of_verdict report.verdict) c.args.output.now c.tell_verdict-exit.new.output
    c.args.err.now c.tell_verdict-exit.new.err c.tell_beside.new.err c.tell_verdict-exit.result c.tell_verdict-exit.ensures
    (told_in_turn contents (IsMeaningIn (code_of_verdict report.verdict)) (IsBeside report.beside) c.tell_verdict-exit.new.err c.explain_code.new.err c.tell_beside.new.err meaning c.tell_beside.ensures)
