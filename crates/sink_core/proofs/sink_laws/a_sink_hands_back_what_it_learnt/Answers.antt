use Rattle.sink_core.proofs.Kept.{hands_back}
use Rattle.sink_core.proofs.sink_laws.a_sink_hands_back_what_it_learnt.Goals as goal

pub returns : goal.returns
returns c = λ job before talk end ends told. hands_back job before talk end.known end.answer ends.answer ends.kept told
