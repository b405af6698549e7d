use Rattle.lake_script.proofs.EndingLemmas.{read_loses, read_short}
use Rattle.lake_script.proofs.ending.reply_of_rows.Goals as goal

pub returns-in-Err-clause-short : goal.returns-in-Err-clause-short
returns-in-Err-clause-short c = rw c.in-Err.is (read_short c.in-Err.fault)

pub returns-in-Err-clause-lost : goal.returns-in-Err-clause-lost
returns-in-Err-clause-lost c = rw c.in-Err.is (read_loses c.in-Err.fault)
