use Rattle.log_laws.proofs.Checkpoints.{checkpoint_front}
use Rattle.log_laws.proofs.leaving.a_checkpoint_stands_for_the_first_commits.Goals as goal

pub returns : goal.returns
returns c = λ objects version count bytes actions later sound lines read. checkpoint_front objects version bytes actions sound lines count later read
