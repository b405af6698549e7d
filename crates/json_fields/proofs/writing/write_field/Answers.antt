use Rattle.std.proofs.Common.{◌≡◌, ◌∷◌, ◌++◌, [], rules}
use Rattle.std.proofs.lemmas.Result.{on_ok_weaker}
use Rattle.json.specs.Token.{key}
use Rattle.json_fields.proofs.Written.{one_written}
use Rattle.json_fields.proofs.writing.write_field.Goals as goal

pub returns-clause-ok : goal.returns-clause-ok
returns-clause-ok g c =
    let named : c.key.new.self.tokens ≡ c.args.out.now.tokens ++ key c.args.name.now ∷ [] = search rules in
    on_ok_weaker c.write.result (λ w. one_written c.args.name.now (g.T.FieldKind.printed (g.T.FieldKind.plain c.args.value.now)) c.args.out.now.tokens c.key.new.self.tokens c.write.new.out.tokens named w) c.write.ensures.ok
