use Rattle.lake_workers.specs.Following.{IsKnownAt}
use Rattle.seat_cases.proofs.workers.tell_works.Given as goal

abbrev pub invariant-loop-item : goal.invariant-loop-item
invariant-loop-item g l =
    (goal.iterator-loop-item g).can_next l.item-iterator ×
    (goal.iterator-loop-item g).is_finite l.item-iterator ×
    IsKnownAt l.holder.seat l.known
