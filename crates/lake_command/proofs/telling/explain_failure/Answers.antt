use Rattle.std.proofs.Common.{◌≡◌, ℕ, List, Option, refl, subst}
use Rattle.lake_hints.specs.ErrorOutputs.{TellsSome}
use Rattle.lake_hints.proofs.Callers.{told_in_turn}
use Rattle.lake_command.specs.Codes.{code_in}
use Rattle.lake_command.specs.ErrorTexts.{IsMeaningIn, failure_hint}
use Rattle.lake_command.proofs.telling.explain_failure.Goals as goal

pub returns : goal.returns
returns g c =
    let contents = g.E.Write.contents in
    told_in_turn contents (IsMeaningIn (code_in c.args.failure.now)) (λ hint. hint ≡ failure_hint c.args.failure.now) c.args.err.now c.explain_code.new.err c.hint.new.err
    (subst (λ (code : Option (List ℕ)). TellsSome contents (IsMeaningIn code) c.args.err.now c.explain_code.new.err) c.code_of.ensures.code c.explain_code.ensures)
    (failure_hint c.args.failure.now, refl, c.hint.ensures)
