use Rattle.table_model.proofs.Kept.{follows_keeps, lawful_follows}
use Rattle.table_model.proofs.laws.an_entry_that_follows_keeps_lawful.Goals as goal

pub returns-clause-enough : goal.returns-clause-enough
returns-clause-enough c = follows_keeps

pub returns-clause-needed : goal.returns-clause-needed
returns-clause-needed c = lawful_follows
