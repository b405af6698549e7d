use Rattle.shred.proofs.ConformsFits.{row_fits}
use Rattle.shred.proofs.laws.rows_that_conform_fit.Goals as goal

pub returns : goal.returns
returns c = row_fits
