use Rattle.table_model.proofs.Kept.{new_is_lawful}
use Rattle.table_model.proofs.laws.a_new_table_is_lawful.Goals as goal

pub returns : goal.returns
returns c = new_is_lawful
