use Rattle.table_model.proofs.Facts.{lawful-front}
use Rattle.table_model.proofs.answers.a_lawful_table_was_lawful.Goals as goal

pub returns : goal.returns
returns c = lawful-front
