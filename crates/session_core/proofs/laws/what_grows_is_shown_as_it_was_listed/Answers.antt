use Rattle.session_core.proofs.Showing.{shows_amid}
use Rattle.session_core.proofs.laws.what_grows_is_shown_as_it_was_listed.Goals as goal

pub returns : goal.returns
returns c = shows_amid
