use Rattle.session_core.proofs.Stores.{talk_may}
use Rattle.session_core.proofs.laws.a_store_answers_as_any_store_may.Goals as goal

pub returns : goal.returns
returns c = talk_may
