use Rattle.session_core.proofs.Bearing.{borne_grows, bears_grows}
use Rattle.session_core.proofs.laws.what_is_borne_stays_borne.Goals as goal

pub returns-clause-answer : goal.returns-clause-answer
returns-clause-answer c = borne_grows

pub returns-clause-talk : goal.returns-clause-talk
returns-clause-talk c = bears_grows
