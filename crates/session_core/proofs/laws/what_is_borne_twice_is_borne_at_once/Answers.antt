use Rattle.session_core.proofs.Bearing.{bears_both}
use Rattle.session_core.proofs.laws.what_is_borne_twice_is_borne_at_once.Goals as goal

pub returns : goal.returns
returns c = bears_both
