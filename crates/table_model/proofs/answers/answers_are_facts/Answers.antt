use Rattle.table_model.proofs.Facts.{append_tells, close_tells}
use Rattle.table_model.proofs.answers.answers_are_facts.Goals as goal

pub returns-clause-append : goal.returns-clause-append
returns-clause-append c = append_tells

pub returns-clause-close : goal.returns-clause-close
returns-clause-close c = close_tells
