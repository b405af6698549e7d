use Rattle.std.proofs.Common.{◌∷◌, ◌++◌, [], string_bytes, ap, ◌∙◌}
use Rattle.std.proofs.lemmas.Result.{on_ok_weaker}
use Rattle.json.specs.Token.{string}
use Rattle.json_fields.proofs.WrittenKinds.{text_reads}
use Rattle.json_fields.proofs.kind.StringFieldKind.write.Goals as goal

pub returns-clause-ok : goal.returns-clause-ok
returns-clause-ok c = on_ok_weaker c.string.result (λ e. record { appends = e ∙ ap (λ t. c.args.out.now.tokens ++ string t ∷ []) c.as_str.ensures.value; reads = text_reads (string_bytes c.args.self.now) }) c.string.ensures.ok
