use Rattle.table_model.proofs.Facts.{next_batch, next_close}
use Rattle.table_model.proofs.answers.a_commit_is_the_next_version.Goals as goal

pub returns-clause-append : goal.returns-clause-append
returns-clause-append c = next_batch

pub returns-clause-close : goal.returns-clause-close
returns-clause-close c = next_close
