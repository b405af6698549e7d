use Rattle.table_model.proofs.Resumed.{final_grows_any, handed_out, any_from_beginning, function_hands_out}
use Rattle.table_model.proofs.parts.any_reader_hands_out_the_log.Goals as goal

pub returns-clause-final_table : goal.returns-clause-final_table
returns-clause-final_table c = final_grows_any

pub returns-clause-part : goal.returns-clause-part
returns-clause-part c = handed_out

pub returns-clause-from_beginning : goal.returns-clause-from_beginning
returns-clause-from_beginning c = any_from_beginning

pub returns-clause-function : goal.returns-clause-function
returns-clause-function c = function_hands_out
