use Rattle.std.proofs.Common.{arith}
use Rattle.std.proofs.lemmas.Result.{on_ok_weaker}
use Rattle.json_fields.proofs.WrittenKinds.{count_reads}
use Rattle.json_fields.proofs.kind.U64FieldKind.write.Goals as goal

pub returns-clause-ok : goal.returns-clause-ok
returns-clause-ok c = on_ok_weaker c.u64.result (λ e. record { appends = e; reads = count_reads c.args.self.now (omega arith) }) c.u64.ensures.ok
