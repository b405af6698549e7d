use Rattle.row_assembly.proofs.Mismatched.{refused_at_mismatch}
use Rattle.row_assembly.proofs.laws.mismatches_are_told_at_the_first_leaf.Goals as goal

pub returns : goal.returns
returns c = refused_at_mismatch
