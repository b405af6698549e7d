use Rattle.table_check.proofs.CheckpointLines.{same_lines}
use Rattle.table_check.proofs.laws.a_checkpoint_is_one_in_any_order.Goals as goal

pub returns : goal.returns
returns c = λ bytes others version log lines actions own read own_read first second is. same_lines bytes others version log lines actions own read own_read first second is
