use Rattle.row_core.proofs.Same.{same_rows-is}
use Rattle.row_core.proofs.laws.equal_rows_are_the_same.Goals as goal

pub returns : goal.returns
returns c = same_rows-is
