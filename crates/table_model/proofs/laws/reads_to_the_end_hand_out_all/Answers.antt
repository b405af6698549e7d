use Rattle.table_model.proofs.Resumed.{all_at_end, all_after_short}
use Rattle.table_model.proofs.laws.reads_to_the_end_hand_out_all.Goals as goal

pub returns-clause-at_end : goal.returns-clause-at_end
returns-clause-at_end c = all_at_end

pub returns-clause-short : goal.returns-clause-short
returns-clause-short c = all_after_short
