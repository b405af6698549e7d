use Rattle.row_assembly.proofs.Assembled.{assembled_sound}
use Rattle.row_assembly.proofs.laws.columns_are_shredded_again.Goals as goal

pub returns : goal.returns
returns c = assembled_sound
