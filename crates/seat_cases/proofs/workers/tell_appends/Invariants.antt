use Rattle.lake_workers.specs.Following.{IsKnownAt}
use Rattle.seat_cases.proofs.workers.tell_appends.Given as goal

abbrev pub invariant-loop-number : goal.invariant-loop-number
invariant-loop-number g l = IsKnownAt l.holder.seat l.known
