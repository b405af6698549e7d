use Rattle.commit_core.proofs.OtherStreams.{close_batches, close_close, other_batches, other_close}
use Rattle.commit_core.proofs.conflict_laws.other_streams_do_not_conflict.Goals as goal

pub returns-clause-batch : goal.returns-clause-batch
returns-clause-batch c = other_batches

pub returns-clause-closed : goal.returns-clause-closed
returns-clause-closed c = other_close

pub returns-clause-close_batch : goal.returns-clause-close_batch
returns-clause-close_batch c = close_batches

pub returns-clause-close_closed : goal.returns-clause-close_closed
returns-clause-close_closed c = close_close
