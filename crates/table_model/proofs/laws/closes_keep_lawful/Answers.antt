use Rattle.table_model.proofs.Kept.{close_keeps}
use Rattle.table_model.proofs.laws.closes_keep_lawful.Goals as goal

pub returns : goal.returns
returns c = close_keeps
