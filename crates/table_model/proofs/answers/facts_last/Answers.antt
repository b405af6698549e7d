use Rattle.table_model.proofs.Facts.{append_lasts, close_lasts, batch_lasts}
use Rattle.table_model.proofs.answers.facts_last.Goals as goal

pub returns-clause-append : goal.returns-clause-append
returns-clause-append c = append_lasts

pub returns-clause-close : goal.returns-clause-close
returns-clause-close c = close_lasts

pub returns-clause-stands : goal.returns-clause-stands
returns-clause-stands c = batch_lasts
