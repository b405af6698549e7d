use Rattle.std.proofs.Common.{◌∙◌, sym, subst}
use Rattle.stream_world.specs.Events.{act}
use Rattle.stream_world.specs.Worlds.{How}
use Rattle.stream_world.specs.Standing.{HasHappened, slot_at}
use Rattle.std.proofs.Common.{None}
use Rattle.world_script.specs.Slots.{short_in}
use Rattle.world_script.proofs.Slotting.{short_stands, step_takes}
use Rattle.world_script.proofs.Stepping.{called, stepped}
use Rattle.world_script.proofs.acting.step.Goals as goal

pub returns-in-Call-clause-came : goal.returns-in-Call-clause-came
returns-in-Call-clause-came g c = λ reliable w stands alive.
    let objects = g.S.Store.objects in
    called objects c.args.actor c.args.kind w c.in-Call._is_commit c.is_lost-is_lost.result (short_in (slot_at c.act.new.self c.args.actor)) c.go_on.result c.act.new.self c.go_on.new.self (c.next_of.ensures.next w stands ∙ c.in-Call.is)
    (subst (λ (h : How). HasHappened objects c.args.world.now.is_short w (act c.args.actor h) None c.act.new.self) c.how_of.ensures (c.act.ensures.happens reliable w stands))
    (λ v there call told at. short_stands objects c.act.new.self c.args.actor v there call told at) c.is_lost-is_lost.ensures (λ v there. c.go_on.ensures.happens v there)

pub returns-in-Step-clause-came : goal.returns-in-Step-clause-came
returns-in-Step-clause-came g c = λ reliable w stands alive.
    stepped g.S.Store.objects c.args.actor c.args.kind w c.go_on-in-Step.result c.go_on-in-Step.new.self (c.next_of.ensures.next w stands ∙ c.in-Step.is) (c.go_on-in-Step.ensures.happens w stands)

pub returns-in-Step-clause-fewer : goal.returns-in-Step-clause-fewer
returns-in-Step-clause-fewer g c = λ alive none. c.go_on-in-Step.ensures.fewer (step_takes _ (sym c.next_of.ensures.code ∙ c.in-Step.is)) none

pub returns-in-Step-clause-reliable : goal.returns-in-Step-clause-reliable
returns-in-Step-clause-reliable g c = λ reliable. subst (λ s. g.S.Store.is_reliable s.store) (sym c.go_on-in-Step.ensures.store) reliable
