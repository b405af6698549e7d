use Rattle.table_check.proofs.WalkGaps.{checkpoint_unsound, gap_unsound}
use Rattle.table_check.proofs.laws.a_store_has_no_other_commits_and_checkpoints.Goals as goal

pub returns-clause-gap : goal.returns-clause-gap
returns-clause-gap c = λ objects from least none is sound. gap_unsound objects from least none is sound

pub returns-clause-checkpoint : goal.returns-clause-checkpoint
returns-clause-checkpoint c = λ objects schema version log name bytes walked told there none sound. checkpoint_unsound objects schema version log name bytes walked told there none sound
