use Rattle.table_check.proofs.WalkCounts.{nothing_counted}
use Rattle.table_check.proofs.WalkGaps.{nothing_below, nothing_sound, zero_below}
use Rattle.table_check.proofs.laws.a_store_begins_soundly.Goals as goal

pub returns-clause-zero : goal.returns-clause-zero
returns-clause-zero c = λ objects. zero_below objects

pub returns-clause-least : goal.returns-clause-least
returns-clause-least c = λ objects least is. nothing_below objects least is

pub returns-clause-sound : goal.returns-clause-sound
returns-clause-sound c = λ objects none. nothing_sound objects none

pub returns-clause-counted : goal.returns-clause-counted
returns-clause-counted c = λ objects none. nothing_counted objects none
