use Rattle.std.proofs.Common.{length}
use Rattle.case_seats.specs.Keeping.{AreKept}
use Rattle.case_seats.proofs.holding.parted.Given as goal

abbrev pub invariant-loop-place : goal.invariant-loop-place
invariant-loop-place g l = AreKept l.kept.items l.seats.items

abbrev pub decreases-loop-place : goal.decreases-loop-place
decreases-loop-place g l = length l.places.items
