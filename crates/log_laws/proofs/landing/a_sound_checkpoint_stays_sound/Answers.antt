use Rattle.table_log.proofs.Callers.{checkpoint_grown}
use Rattle.log_laws.proofs.landing.a_sound_checkpoint_stays_sound.Goals as goal

pub returns : goal.returns
returns c = λ objects more version bytes grown good. checkpoint_grown objects more grown version bytes good
