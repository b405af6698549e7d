use Rattle.table_model.proofs.Batches.{rows-batches}
use Rattle.table_model.proofs.laws.rows_are_those_of_the_batches.Goals as goal

pub returns : goal.returns
returns c = rows-batches
