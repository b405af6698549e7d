use Rattle.json_fields.proofs.Written.{none_written}
use Rattle.json_fields.proofs.writing.write_optional.Goals as goal

pub returns-in-None-clause-ok : goal.returns-in-None-clause-ok
returns-in-None-clause-ok g c = rw c.in-None.is (none_written c.args.name.now c.args.out.now.tokens)
