use Rattle.log_laws.proofs.Growth.{admissible_kept}
use Rattle.log_laws.proofs.landing.an_admissible_commit_stays_admissible.Goals as goal

pub returns : goal.returns
returns c = λ objects more version bytes grown new lacking. admissible_kept objects more grown version bytes new lacking
