use Rattle.log_laws.proofs.Admits.{batch_admissible, close_admissible, group_admissible}
use Rattle.log_laws.proofs.admitting.the_next_entry_is_admissible.Goals as goal

pub returns-clause-batch : goal.returns-clause-batch
returns-clause-batch c = λ objects schema first entries b bytes stand lawful fits. batch_admissible objects schema first entries stand lawful fits b bytes

pub returns-clause-group : goal.returns-clause-group
returns-clause-group c = λ objects schema first entries bs bytes stand lawful fits. group_admissible objects schema first entries stand lawful fits bs bytes

pub returns-clause-closed : goal.returns-clause-closed
returns-clause-closed c = λ objects schema first entries application bytes stand lawful fits. close_admissible objects schema first entries stand lawful fits application bytes
