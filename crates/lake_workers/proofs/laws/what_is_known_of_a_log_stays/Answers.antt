use Rattle.lake_workers.proofs.LogCommits.{known_begins, known_still}
use Rattle.lake_workers.proofs.Talking.{stood_by, talk_grows}
use Rattle.lake_workers.proofs.laws.what_is_known_of_a_log_stays.Goals as goal

pub returns-clause-begins : goal.returns-clause-begins
returns-clause-begins c = known_begins

pub returns-clause-stays : goal.returns-clause-stays
returns-clause-stays c = λ old new talk log file at through. known_still old new log file (λ objects may. stood_by old new objects (talk_grows old new talk through) may) at
