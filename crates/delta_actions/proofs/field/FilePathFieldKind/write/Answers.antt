use Rattle.std.proofs.Common.{◌∷◌, ◌++◌, [], ap, ◌∙◌}
use Rattle.std.proofs.lemmas.Result.{on_ok_weaker}
use Rattle.json.specs.Token.{string}
use Rattle.json_fields.proofs.Callers.{text_reads}
use Rattle.delta_actions.specs.Action.{path_view}
use Rattle.delta_actions.proofs.field.FilePathFieldKind.write.Goals as goal

pub returns-clause-ok : goal.returns-clause-ok
returns-clause-ok c =
    let text = (path_view c.args.self.now).text in
    on_ok_weaker c.string.result (λ e. record { appends = e ∙ ap (λ t. c.args.out.now.tokens ++ string t ∷ []) c.text.ensures; reads = text_reads text }) c.string.ensures.ok
