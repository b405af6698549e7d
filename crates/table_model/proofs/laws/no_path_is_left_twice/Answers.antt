use Rattle.table_model.proofs.LivePaths.{leaves_once}
use Rattle.table_model.proofs.laws.no_path_is_left_twice.Goals as goal

pub returns-clause-newest : goal.returns-clause-newest
returns-clause-newest c = λ entries lawful. (leaves_once entries lawful).newest

pub returns-clause-once : goal.returns-clause-once
returns-clause-once c = λ entries lawful. (leaves_once entries lawful).different
