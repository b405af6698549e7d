use Rattle.log_laws.proofs.Growth.{admissible_kept}
use Rattle.log_laws.proofs.Lands.{commit_lands}
use Rattle.log_laws.proofs.landing.an_admissible_commit_lands.Goals as goal

pub returns-clause-now : goal.returns-clause-now
returns-clause-now c = commit_lands

pub returns-clause-later : goal.returns-clause-later
returns-clause-later c = λ objects more version bytes grown sound new lacking. commit_lands more version bytes sound (admissible_kept objects more grown version bytes new lacking)
