use Rattle.table_model.proofs.Read.{rows_between, next_is_offset, as_many, at_end, at_most}
use Rattle.table_model.proofs.laws.a_read_hands_the_rows_between_its_offsets.Goals as goal

pub returns-clause-rows : goal.returns-clause-rows
returns-clause-rows c = rows_between

pub returns-clause-onward : goal.returns-clause-onward
returns-clause-onward c = next_is_offset

pub returns-clause-as_many : goal.returns-clause-as_many
returns-clause-as_many c = as_many

pub returns-clause-at_most : goal.returns-clause-at_most
returns-clause-at_most c = at_most

pub returns-clause-at_end : goal.returns-clause-at_end
returns-clause-at_end c = at_end
