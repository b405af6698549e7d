use Rattle.table_check.proofs.WalkStops.{not_created, not_followed, not_read}
use Rattle.table_check.proofs.laws.a_walk_stops.Goals as goal

pub returns-clause-created : goal.returns-clause-created
returns-clause-created c = λ objects bytes there none sound. not_created objects bytes there none sound

pub returns-clause-read : goal.returns-clause-read
returns-clause-read c = λ objects schema version log bytes walked fits there none sound. not_read objects schema version log walked bytes fits there none sound

pub returns-clause-follows : goal.returns-clause-follows
returns-clause-follows c = λ objects schema version log bytes made walked fits there lines texts none sound. not_followed objects schema version log walked bytes made fits there lines texts none sound
