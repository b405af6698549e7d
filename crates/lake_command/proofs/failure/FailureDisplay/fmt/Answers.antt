use Rattle.lake_command.proofs.failure.FailureDisplay.fmt.Goals as goal

pub returns-in-Miscounted-clause-writes : goal.returns-in-Miscounted-clause-writes
returns-in-Miscounted-clause-writes g c = λ plain ok. rw c.in-Miscounted.is (c.write-in-Miscounted.ensures.writes plain ok)
