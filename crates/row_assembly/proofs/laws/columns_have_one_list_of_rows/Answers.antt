use Rattle.row_assembly.proofs.Assembled.{same_rows_given}
use Rattle.row_assembly.proofs.laws.columns_have_one_list_of_rows.Goals as goal

pub returns : goal.returns
returns c = same_rows_given
