use Rattle.row_core.proofs.ConformsReads.{row_again}
use Rattle.row_core.proofs.laws.what_conforms_reads_again.Goals as goal

pub returns : goal.returns
returns c = row_again
