use Rattle.table_model.proofs.Kept.{stands_already, left_as_it_was}
use Rattle.table_model.proofs.laws.a_committed_batch_stands_already.Goals as goal

pub returns-clause-answer : goal.returns-clause-answer
returns-clause-answer c = stands_already

pub returns-clause-left : goal.returns-clause-left
returns-clause-left c = left_as_it_was
