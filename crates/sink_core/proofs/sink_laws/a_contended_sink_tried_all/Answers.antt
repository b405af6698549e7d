use Rattle.sink_core.proofs.SinkCounts.{all_tried}
use Rattle.sink_core.proofs.sink_laws.a_contended_sink_tried_all.Goals as goal

pub returns : goal.returns
returns c = λ job before talk end newest ends is. all_tried job before talk end.answer newest ends.answer is
