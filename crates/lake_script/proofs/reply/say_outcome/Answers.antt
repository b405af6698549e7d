use Rattle.lake_script.proofs.reply.say_outcome.Goals as goal

pub returns-in-Closed-clause-held : goal.returns-in-Closed-clause-held
returns-in-Closed-clause-held g c = rw c.in-Closed.is c.say-in-Closed.ensures.held

pub returns-in-AlreadyClosed-clause-held : goal.returns-in-AlreadyClosed-clause-held
returns-in-AlreadyClosed-clause-held g c = rw c.in-AlreadyClosed.is c.say-in-AlreadyClosed.ensures.held
