use Rattle.log_laws.proofs.Lands.{data_file_lands, other_lands}
use Rattle.log_laws.proofs.landing.a_data_file_lands.Goals as goal

pub returns-clause-file : goal.returns-clause-file
returns-clause-file c = data_file_lands

pub returns-clause-other : goal.returns-clause-other
returns-clause-other c = other_lands
