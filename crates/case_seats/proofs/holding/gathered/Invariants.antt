use Rattle.std.proofs.Common.{length}
use Rattle.log_hub.specs.Finishing.{AreShown}
use Rattle.case_seats.proofs.holding.gathered.Given as goal

abbrev pub invariant-loop-place : goal.invariant-loop-place
invariant-loop-place g l = AreShown l.receipts.items l.seats.items

abbrev pub decreases-loop-place : goal.decreases-loop-place
decreases-loop-place g l = length l.places.items
