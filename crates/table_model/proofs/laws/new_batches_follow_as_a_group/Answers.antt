use Rattle.table_model.proofs.Grouped.{group_follows}
use Rattle.table_model.proofs.laws.new_batches_follow_as_a_group.Goals as goal

pub returns : goal.returns
returns c = group_follows
