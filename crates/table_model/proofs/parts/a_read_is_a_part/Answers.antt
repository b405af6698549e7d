use Rattle.table_model.proofs.PartLemmas.{read_is_part, read_ends}
use Rattle.table_model.proofs.parts.a_read_is_a_part.Goals as goal

pub returns-clause-part : goal.returns-clause-part
returns-clause-part c = read_is_part

pub returns-clause-ends : goal.returns-clause-ends
returns-clause-ends c = read_ends
