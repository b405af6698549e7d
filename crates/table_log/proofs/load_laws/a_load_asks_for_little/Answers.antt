use Rattle.table_log.proofs.LoadNames.{few_asked, listed_first}
use Rattle.table_log.proofs.LoadTalks.{all_reads}
use Rattle.table_log.proofs.load_laws.a_load_asks_for_little.Goals as goal

pub returns-clause-reads : goal.returns-clause-reads
returns-clause-reads c = all_reads

pub returns-clause-few : goal.returns-clause-few
returns-clause-few c = few_asked

pub returns-clause-listed : goal.returns-clause-listed
returns-clause-listed c = listed_first
