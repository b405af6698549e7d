use Rattle.job_laws.proofs.AppendedAgain.{append_plan_again, told_again}
use Rattle.job_laws.proofs.AppendedAlone.{told_alone}
use Rattle.job_laws.proofs.an_append_again_stands.Goals as goal

pub returns-clause-told : goal.returns-clause-told
returns-clause-told c = λ objects application number at later version items well told. told_again objects application number at items later version well told

pub returns-clause-puts_nothing : goal.returns-clause-puts_nothing
returns-clause-puts_nothing c = λ objects application number at later version items well told. append_plan_again objects application number at items later version well told

pub returns-clause-alone : goal.returns-clause-alone
returns-clause-alone c = λ objects application number at version items order well told. told_alone objects application number at version items order well told
