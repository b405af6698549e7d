use Rattle.std.proofs.lemmas.Result.{on_ok_weaker}
use Rattle.json_fields.proofs.WrittenKinds.{truth_reads}
use Rattle.json_fields.proofs.kind.BoolFieldKind.write.Goals as goal

pub returns-clause-ok : goal.returns-clause-ok
returns-clause-ok c = on_ok_weaker c.boolean.result (λ e. record { appends = e; reads = truth_reads c.args.self.now }) c.boolean.ensures.ok
