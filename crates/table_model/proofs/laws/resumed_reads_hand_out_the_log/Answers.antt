use Rattle.table_model.proofs.Resumed.{final_grows, log_between, onward_in_the_log, log_from_beginning}
use Rattle.table_model.proofs.laws.resumed_reads_hand_out_the_log.Goals as goal

pub returns-clause-final_table : goal.returns-clause-final_table
returns-clause-final_table c = final_grows

pub returns-clause-rows : goal.returns-clause-rows
returns-clause-rows c = log_between

pub returns-clause-onward : goal.returns-clause-onward
returns-clause-onward c = onward_in_the_log

pub returns-clause-from_beginning : goal.returns-clause-from_beginning
returns-clause-from_beginning c = log_from_beginning
