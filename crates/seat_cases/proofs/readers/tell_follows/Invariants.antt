use Rattle.lake_workers.specs.Reading.{IsLogKnownAt}
use Rattle.seat_cases.proofs.readers.tell_follows.Given as goal

abbrev pub invariant-loop-item : goal.invariant-loop-item
invariant-loop-item g l =
    (goal.iterator-loop-item g).can_next l.item-iterator ×
    (goal.iterator-loop-item g).is_finite l.item-iterator ×
    IsLogKnownAt l.holder.seat l.cache.log l.cache.file
