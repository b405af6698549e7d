use Rattle.world_script.proofs.Coming.{died}
use Rattle.world_script.proofs.named.do_deed.Goals as goal

pub returns-in-Die-clause-came : goal.returns-in-Die-clause-came
returns-in-Die-clause-came g c = λ reliable w stands alive. rw c.in-Die.is (died g.S.Store.objects c.args.number w c.die.new.self (c.die.ensures.happens w stands))
