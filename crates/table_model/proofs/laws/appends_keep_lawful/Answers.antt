use Rattle.table_model.proofs.Kept.{append_keeps}
use Rattle.table_model.proofs.laws.appends_keep_lawful.Goals as goal

pub returns : goal.returns
returns c = append_keeps
