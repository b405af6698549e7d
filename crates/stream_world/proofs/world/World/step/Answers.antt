use Rattle.std.proofs.Common.{None, ap, subst, sym}
use Rattle.std.proofs.lemmas.Result.{err_from_is_err_and}
use Rattle.stream_model.specs.Events.{Event}
use Rattle.stream_world.specs.EventViews.{event_view}
use Rattle.stream_world.specs.Standing.{HasHappened, TakesMemory}
use Rattle.stream_world.specs.declared.event.Event as code_event
use Rattle.stream_world.proofs.world.World.step.Goals as goal

pub returns-in_err-begin-in-Begin-clause-happens : goal.returns-in_err-begin-in-Begin-clause-happens
returns-in_err-begin-in-Begin-clause-happens g c = λ reliable w stands.
    let p = err_from_is_err_and c.from_residual.result c.from_residual.ensures.1 in
    let left = c.in_err-begin-in-Begin.ensures.happens w stands in
    rw p.1 (subst (λ (e : code_event.Event). TakesMemory (event_view e)) (sym c.in-Begin.is) tt, left.0, left.1)

pub returns-in-Ok-clause-happens : goal.returns-in-Ok-clause-happens
returns-in-Ok-clause-happens g c = λ reliable w stands.
    subst (λ (e : Event). HasHappened g.S.Store.objects c.args.self.now.is_short w e None c.land.new.self) (sym (ap event_view c.in-Land.is)) (c.in-Ok.ensures.happens reliable w stands).1

pub returns-in-Err-Memory-clause-happens : goal.returns-in-Err-Memory-clause-happens
returns-in-Err-Memory-clause-happens g c = λ reliable w stands.
    let left = rw c.in-Err-Memory.field-0-is at c.in-Err-Memory.ensures.happens reliable w stands in
    (subst (λ (e : code_event.Event). TakesMemory (event_view e)) (sym c.in-Land.is) tt, left.0, left.1)

pub returns-in-Err-Lost-clause-happens : goal.returns-in-Err-Lost-clause-happens
returns-in-Err-Lost-clause-happens g c = λ reliable w stands. absurd (rw c.in-Err-Lost.field-0-is at c.in-Err-Lost.ensures.happens reliable w stands)
