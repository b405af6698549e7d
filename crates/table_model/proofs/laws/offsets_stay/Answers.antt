use Rattle.table_model.proofs.Grown.{stays, is_answered}
use Rattle.table_model.proofs.laws.offsets_stay.Goals as goal

pub returns-clause-stay : goal.returns-clause-stay
returns-clause-stay c = stays

pub returns-clause-answered : goal.returns-clause-answered
returns-clause-answered c = is_answered
