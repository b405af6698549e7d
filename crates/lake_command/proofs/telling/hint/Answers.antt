use Rattle.lake_command.proofs.telling.hint.Goals as goal

pub returns-in-BadLine : goal.returns-in-BadLine
returns-in-BadLine g c = rw c.in-BadLine.is c.say.ensures
