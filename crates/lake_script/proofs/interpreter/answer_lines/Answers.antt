use Rattle.std.proofs.Common.{rules, ◌∙◌}
use Rattle.lake_script.proofs.Answering.{front_all}
use Rattle.lake_script.proofs.RunsLemmas.{on_err, tells_through}
use Rattle.lake_script.proofs.interpreter.answer_lines.Goals as goal

pub returns-clause-answers : goal.returns-clause-answers
returns-clause-answers g c = λ reliable s stands.
    record { answered = tells_through _ _ _ _ _ (c.in_ok-bad.ensures.answers reliable s stands) c.in_ok-flush.ensures.held c.in_ok-flush.ensures.through; front = search rules }

pub returns-in_err-flush-clause-answers : goal.returns-in_err-flush-clause-answers
returns-in_err-flush-clause-answers g c = λ reliable s stands.
    record {
      answered = search rules;
      front = on_err _ _ (front_all g.I.Interpreter.does s c.args.text.now (g.I.Interpreter.stands c.answer_each.new.interpreter) _ _ _ _ (c.in_ok-bad.ensures.answers reliable s stands) c.in_err-flush.ensures.stands);
    }

pub returns-in_err-bad-clause-answers : goal.returns-in_err-bad-clause-answers
returns-in_err-bad-clause-answers g c = λ reliable s stands.
    record { answered = search rules; front = on_err _ _ (c.in_err-bad.ensures.front reliable s stands) }

pub returns-clause-leaves : goal.returns-clause-leaves
returns-clause-leaves g c = record {
  bad = c.in_ok-bad.ensures.bad;
  through = c.in_ok-flush.ensures.through;
  behind = tells_through _ _ _ _ _ c.in_ok-bad.ensures.behind c.in_ok-flush.ensures.held c.in_ok-flush.ensures.through;
  unbroken = c.in_ok-flush.ensures.unbroken ∙ c.in_ok-bad.ensures.unbroken;
  broken = search rules;
}
