use Rattle.table_model.proofs.PartLemmas.{front_of_rows, all_rows}
use Rattle.table_model.proofs.parts.a_part_from_the_beginning_is_a_front.Goals as goal

pub returns-clause-front : goal.returns-clause-front
returns-clause-front c = front_of_rows

pub returns-clause-all : goal.returns-clause-all
returns-clause-all c = all_rows
