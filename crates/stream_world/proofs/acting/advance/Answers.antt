use Rattle.stream_world.proofs.Hands.{ready_asks}
use Rattle.table_jobs.specs.Sessions.{awaited}
use Rattle.stream_world.proofs.acting.advance.Goals as goal

pub invariant_of-asking : goal.invariant_of-asking
invariant_of-asking c =
    let steps = rw c.in-Ask.is at c.next.ensures.steps in
    record { unended = steps.2; ready = ready_asks (awaited c.next.new.self) c.in-Ask.request steps.0 }

pub returns-in-Ask-clause-goes : goal.returns-in-Ask-clause-goes
returns-in-Ask-clause-goes c = (
  c.next.ensures.same,
  ((λ before talk asked fit. rw c.in-Ask.is at (c.next.ensures.goes before talk asked fit)), (rw c.in-Ask.is at c.next.ensures.told), c.are_bytes_put.ensures),
)

pub returns-in-Done-clause-goes : goal.returns-in-Done-clause-goes
returns-in-Done-clause-goes c = ((λ before talk asked fit. rw c.in-Done.is at (c.next.ensures.goes before talk asked fit)), (rw c.in-Done.is at c.next.ensures.told))
