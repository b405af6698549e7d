use Rattle.snapshot_core.proofs.FewCalls.{few_calls}
use Rattle.snapshot_core.proofs.checkpoint_laws.a_checkpoint_asks_for_little.Goals as goal

pub returns : goal.returns
returns c = record { few = λ job before talk rest names asked is. few_calls job before talk rest names asked is }
