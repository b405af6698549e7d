use Rattle.session_core.proofs.Showing.{shows_more}
use Rattle.session_core.proofs.laws.what_a_longer_talk_shows.Goals as goal

pub returns : goal.returns
returns c = shows_more
