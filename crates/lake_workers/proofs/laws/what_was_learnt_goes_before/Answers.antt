use Rattle.lake_workers.proofs.Knowing.{knows_learnt, knows_still}
use Rattle.lake_workers.proofs.Talking.{stood_by, talk_grows}
use Rattle.lake_workers.proofs.laws.what_was_learnt_goes_before.Goals as goal

pub returns-clause-learnt : goal.returns-clause-learnt
returns-clause-learnt c = knows_learnt

pub returns-clause-stays : goal.returns-clause-stays
returns-clause-stays c = λ old new talk known at through. knows_still old new known (λ objects may. stood_by old new objects (talk_grows old new talk through) may) at
