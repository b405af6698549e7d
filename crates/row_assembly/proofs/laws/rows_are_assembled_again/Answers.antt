use Rattle.row_assembly.proofs.Assembled.{assembled_complete}
use Rattle.row_assembly.proofs.laws.rows_are_assembled_again.Goals as goal

pub returns : goal.returns
returns c = assembled_complete
