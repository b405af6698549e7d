use Rattle.session_laws.proofs.LoadRows.{checkpoint_asks, checkpoint_tells}
use Rattle.session_laws.proofs.sessions.what_a_checkpoint_may.Goals as goal

pub returns-clause-asks : goal.returns-clause-asks
returns-clause-asks c = λ objects schema entries job before talk asked amid does. checkpoint_asks objects amid.sound job before amid.earlier schema talk asked amid.borne does

pub returns-clause-tells : goal.returns-clause-tells
returns-clause-tells c = λ objects schema entries job before talk end amid does. checkpoint_tells objects amid.sound job before amid.earlier talk end.known end.answer amid.borne amid.asked does.0.answer does.1
