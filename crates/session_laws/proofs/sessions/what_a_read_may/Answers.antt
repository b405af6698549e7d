use Rattle.session_laws.proofs.ReadRows.{read_asks, read_tells}
use Rattle.session_laws.proofs.sessions.what_a_read_may.Goals as goal

pub returns-clause-asks : goal.returns-clause-asks
returns-clause-asks c = λ objects schema entries job before talk asked amid does. read_asks objects schema job before talk asked does

pub returns-clause-tells : goal.returns-clause-tells
returns-clause-tells c = λ objects schema entries job before talk end amid does. read_tells objects schema entries amid.sound amid.holds job before talk amid.asked end does.0 does.1
