use Rattle.std.proofs.Common.{◌∙◌, ap}
use Rattle.log_hub.proofs.Steps.{takes}
use Rattle.log_hub.proofs.lock.look_for.Goals as goal

pub try_recv_as-requires-clause-rule : goal.try_recv_as-requires-clause-rule
try_recv_as-requires-clause-rule g c = (takes _ _ (ap (λ v. v.sits) c.loop.invariant.1 ∙ c.requires.sits), λ items views h here. tt)
