use Rattle.table_log.proofs.Callers.{checkpoint_grown}
use Rattle.log_laws.proofs.Lands.{checkpoint_lands}
use Rattle.log_laws.proofs.landing.a_sound_checkpoint_lands.Goals as goal

pub returns-clause-now : goal.returns-clause-now
returns-clause-now c = checkpoint_lands

pub returns-clause-later : goal.returns-clause-later
returns-clause-later c = λ objects more name bytes version is grown sound good. checkpoint_lands more name bytes version is sound (checkpoint_grown objects more grown version bytes good)
