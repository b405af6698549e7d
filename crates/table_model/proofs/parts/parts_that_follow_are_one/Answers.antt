use Rattle.table_model.proofs.PartLemmas.{no_part, part_stays, parts_join}
use Rattle.table_model.proofs.parts.parts_that_follow_are_one.Goals as goal

pub returns-clause-none : goal.returns-clause-none
returns-clause-none c = no_part

pub returns-clause-stays : goal.returns-clause-stays
returns-clause-stays c = part_stays

pub returns-clause-joined : goal.returns-clause-joined
returns-clause-joined c = parts_join
