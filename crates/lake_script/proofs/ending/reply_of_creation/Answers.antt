use Rattle.lake_script.proofs.EndingLemmas.{creation_loses, creation_short}
use Rattle.lake_script.proofs.ending.reply_of_creation.Goals as goal

pub returns-in-Err-clause-short : goal.returns-in-Err-clause-short
returns-in-Err-clause-short c = rw c.in-Err.is (creation_short c.in-Err.fault)

pub returns-in-Err-clause-lost : goal.returns-in-Err-clause-lost
returns-in-Err-clause-lost c = rw c.in-Err.is (creation_loses c.in-Err.fault)
