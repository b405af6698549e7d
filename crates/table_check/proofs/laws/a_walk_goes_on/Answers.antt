use Rattle.table_check.proofs.WalkLemmas.{checkpoint_walked, first_walked, more_walked, sound_below_more}
use Rattle.table_check.proofs.laws.a_walk_goes_on.Goals as goal

pub returns-clause-begins : goal.returns-clause-begins
returns-clause-begins c = λ objects schema bytes made there commit lines printable. first_walked objects schema bytes made there commit lines printable

pub returns-clause-goes_on : goal.returns-clause-goes_on
returns-clause-goes_on c = λ objects schema version log walked entry bytes made there commit lines printable files may. more_walked objects schema version log walked entry bytes made there commit lines printable files may

pub returns-clause-checkpoint : goal.returns-clause-checkpoint
returns-clause-checkpoint c = λ objects schema version log bytes walked checkpoint. checkpoint_walked objects schema version log bytes walked checkpoint

pub returns-clause-checkpoints : goal.returns-clause-checkpoints
returns-clause-checkpoints c = λ objects version below own. sound_below_more objects version below own
