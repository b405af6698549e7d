use Rattle.session_laws.proofs.LoadRows.{load_asks, load_tells}
use Rattle.session_laws.proofs.sessions.what_a_load_may.Goals as goal

pub returns-clause-asks : goal.returns-clause-asks
returns-clause-asks c = λ objects schema entries job before talk asked amid does. load_asks objects amid.sound job before amid.earlier schema talk asked does

pub returns-clause-tells : goal.returns-clause-tells
returns-clause-tells c = λ objects schema entries job before talk result amid does. load_tells objects amid.sound job before amid.earlier talk result amid.borne amid.asked does.0 does.1
