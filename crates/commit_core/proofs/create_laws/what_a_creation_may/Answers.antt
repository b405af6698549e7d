use Rattle.commit_core.proofs.CreationTalks.{may_ask, may_tell}
use Rattle.commit_core.proofs.create_laws.what_a_creation_may.Goals as goal

pub returns-clause-asks : goal.returns-clause-asks
returns-clause-asks c = may_ask

pub returns-clause-tells : goal.returns-clause-tells
returns-clause-tells c = λ objects job before talk. may_tell objects job talk
