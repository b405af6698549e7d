-- What becomes of the creates of a folder in memory, of which one may fail.
use Rattle.std.specs.Prelude.{zero, suc}
use Rattle.table_folder.specs.declared.memory.CreateTurn.{CreateTurn}
use Rattle.table_folder.specs.declared.memory.CreateTurn.TheVariants.{Pass, FailBefore, FailAfter}
use Rattle.table_folder.specs.declared.memory.Stop.{Stop}
use Rattle.table_folder.specs.declared.memory.Stop.TheVariants.{Never, Before, After}

-- what becomes of the next create
abbrev pub stop_turn : Stop → CreateTurn
stop_turn Never = Pass
stop_turn (Before zero) = FailBefore
stop_turn (Before (suc creates)) = Pass
stop_turn (After zero) = FailAfter
stop_turn (After (suc creates)) = Pass

-- what is left of it then
abbrev pub later_stop : Stop → Stop
later_stop Never = Never
later_stop (Before zero) = Never
later_stop (Before (suc creates)) = Before creates
later_stop (After zero) = Never
later_stop (After (suc creates)) = After creates
