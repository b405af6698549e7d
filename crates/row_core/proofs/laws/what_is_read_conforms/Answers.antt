use Rattle.row_core.proofs.ReadConforms.{row_conforms}
use Rattle.row_core.proofs.laws.what_is_read_conforms.Goals as goal

pub returns : goal.returns
returns c = row_conforms
