use Rattle.table_check.proofs.FirstUnsound.{no_first}
use Rattle.table_check.proofs.WalkEnds.{lesser_below, one_first, sound_below, whole_below}
use Rattle.table_check.proofs.laws.a_store_is_sound_or_has_one_first_unsound_version.Goals as goal

pub returns-clause-whole : goal.returns-clause-whole
returns-clause-whole c = whole_below

pub returns-clause-sound : goal.returns-clause-sound
returns-clause-sound c = sound_below

pub returns-clause-lesser : goal.returns-clause-lesser
returns-clause-lesser c = lesser_below

pub returns-clause-once : goal.returns-clause-once
returns-clause-once c = one_first

pub returns-clause-broken : goal.returns-clause-broken
returns-clause-broken c = λ objects version first sound. first.1 (sound_below objects _ sound)

pub returns-clause-first : goal.returns-clause-first
returns-clause-first c = λ objects unsound none. no_first objects none unsound
