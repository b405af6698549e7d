use Rattle.std.proofs.Common.{◌≡◌, ◌∙◌, sym}
use Rattle.world_script.specs.declared.acting.Next.{Next}
use Rattle.world_script.specs.declared.acting.Next.TheVariants as nexts
use Rattle.std.proofs.Common.{Bool}
use Rattle.world_script.proofs.Leading.{alive_then, met_never, met_now, met_then}
use Rattle.world_script.proofs.acting.meet.Goals as goal

-- a call is no step
no_call_steps : (next : Next) (c : Bool) → next ≡ nexts.Call c → next ≡ nexts.Step → ⊥
no_call_steps next c is step = let wrong : nexts.Call c ≡ nexts.Step = sym is ∙ step in cc

pub returns-in-Some-clause-came : goal.returns-in-Some-clause-came
returns-in-Some-clause-came g c = λ reliable w stands alive.
    met_never g.S.Store.objects c.args.actor c.args.kind w c.in-Some.outcome c.step.new.world (c.next_of.ensures.next w stands ∙ c.in-Step.is) (c.in-Some.ensures.came reliable w stands alive)

pub returns-in-None-clause-came : goal.returns-in-None-clause-came
returns-in-None-clause-came g c = λ reliable w stands alive.
    let first = c.in-None.ensures.came reliable w stands alive in
    met_then g.S.Store.objects c.args.actor c.args.kind w c.step.new.world first c.step-in-None.result c.step-in-None.new.world (c.next_of.ensures.next w stands ∙ c.in-Step.is)
    (c.step-in-None.ensures.came (c.step.ensures.reliable reliable) first.later first.stands (alive_then g.S.Store.objects c.args.actor c.args.kind w c.step.new.world first))

pub returns-in-Call-clause-came : goal.returns-in-Call-clause-came
returns-in-Call-clause-came g c = λ reliable w stands alive.
    met_now g.S.Store.objects c.args.actor c.args.kind w c.step-in-Call.result c.step-in-Call.new.world alive (no_call_steps _ c.in-Call._is_commit (c.next_of.ensures.next w stands ∙ c.in-Call.is)) (c.step-in-Call.ensures.came reliable w stands alive)
