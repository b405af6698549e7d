use Rattle.std.proofs.Common.{length}
use Rattle.case_seats.specs.Keeping.{AreKept}
use Rattle.case_seats.proofs.holding.placed.Given as goal

abbrev pub invariant-loop-seat : goal.invariant-loop-seat
invariant-loop-seat g l = AreKept l.kept.items l.seats.items

abbrev pub decreases-loop-seat : goal.decreases-loop-seat
decreases-loop-seat g l = length l.seats.items
