use Rattle.std.proofs.Common.{refl}
use Rattle.page_cells.proofs.LevelsSeen.{zeros_told}
use Rattle.page_cells.proofs.levels.untold_levels.Goals as goal

pub returns-clause-told : goal.returns-clause-told
returns-clause-told c = zeros_told c.args.count _ refl refl
