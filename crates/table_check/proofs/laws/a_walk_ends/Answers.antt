use Rattle.std.proofs.Common.{◌∷◌, arith}
use Rattle.table_model.specs.Table.{creation}
use Rattle.table_check.proofs.WalkCounts.{walk_counted}
use Rattle.table_check.proofs.WalkEnds.{ends_below, ends_sound, front_below}
use Rattle.table_check.proofs.laws.a_walk_ends.Goals as goal

pub returns-clause-sound : goal.returns-clause-sound
returns-clause-sound c = λ objects schema version log walked below fits none.
    ends_sound objects version schema (creation ∷ walked.later) walked.stand walked.lawful (omega (arith, walked.at)) below fits none

pub returns-clause-least : goal.returns-clause-least
returns-clause-least c = λ objects schema version least log walked below is.
    ends_below objects version schema (creation ∷ walked.later) walked.stand walked.lawful (omega (arith, walked.at)) below least is

pub returns-clause-below : goal.returns-clause-below
returns-clause-below c = λ objects schema version next log walked low below.
    front_below objects schema (creation ∷ walked.later) version walked.stand walked.lawful (omega (arith, walked.at, low)) below

pub returns-clause-counted : goal.returns-clause-counted
returns-clause-counted c = λ objects schema version log walked fits none. walk_counted objects version none schema log walked fits
