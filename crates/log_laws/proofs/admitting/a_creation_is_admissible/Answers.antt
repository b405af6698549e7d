use Rattle.log_laws.proofs.Admits.{creation_admissible}
use Rattle.log_laws.proofs.admitting.a_creation_is_admissible.Goals as goal

pub returns : goal.returns
returns c = creation_admissible
