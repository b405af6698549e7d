use Rattle.table_model.proofs.Kept.{later_is_greater}
use Rattle.table_model.proofs.laws.numbers_stand_once.Goals as goal

pub returns : goal.returns
returns c = later_is_greater
