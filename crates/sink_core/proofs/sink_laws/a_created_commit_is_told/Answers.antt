use Rattle.sink_core.proofs.SinkTalks.{created_quiet, created_told}
use Rattle.sink_core.proofs.sink_laws.a_created_commit_is_told.Goals as goal

pub returns-clause-told : goal.returns-clause-told
returns-clause-told c = λ job before talk version bytes end ends. created_told job before talk version bytes end.answer ends.answer

pub returns-clause-quiet : goal.returns-clause-quiet
returns-clause-quiet c = λ job before talk version bytes asked asks. created_quiet job before talk version bytes asked asks
