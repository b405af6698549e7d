use Rattle.table_model.proofs.PartLemmas.{only_part}
use Rattle.table_model.proofs.parts.a_part_is_the_only_one.Goals as goal

pub returns : goal.returns
returns c = only_part
