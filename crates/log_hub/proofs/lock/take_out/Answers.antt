use Rattle.std.proofs.Common.{◌∙◌, ap, rules}
use Rattle.log_hub.proofs.Steps.{takes}
use Rattle.log_hub.proofs.lock.take_out.Goals as goal

pub recv_as-requires-clause-rule : goal.recv_as-requires-clause-rule
recv_as-requires-clause-rule g c = (takes _ _ (ap (λ v. v.sits) (c.loop.invariant.1 ∙ c.look_for.ensures.same (search rules)) ∙ c.requires.sits), λ items views h here. tt)
