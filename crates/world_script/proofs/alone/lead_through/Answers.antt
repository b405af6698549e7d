use Rattle.std.proofs.Common.{Option, None, Some, sym, subst}
use Rattle.script_lines.specs.declared.kind.Kind.{Kind}
use Rattle.world_script.specs.Doing.{CameThrough}
use Rattle.world_script.proofs.Leading.{alive_behind, alive_there, through_behind, through_fault, through_front, through_none}
use Rattle.world_script.proofs.alone.lead_through.Goals as goal

pub returns-in_default-clause-came : goal.returns-in_default-clause-came
returns-in_default-clause-came g c = λ reliable w stands alive.
    subst (λ (f : Option Kind). CameThrough g.S.Store.objects f w c.lead.result f c.lead.new.world) (sym c.in_default.is) (through_none g.S.Store.objects w c.lead.result c.lead.new.world (c.lead.ensures.came reliable w stands alive))

pub returns-in-Some-lead-clause-came : goal.returns-in-Some-lead-clause-came
returns-in-Some-lead-clause-came g c = λ reliable w stands alive.
    subst (λ (f : Option Kind). CameThrough g.S.Store.objects f w (Some c.in-Some-lead.outcome) f c.lead-2.new.world) (sym c.in-Some.is)
    (through_front g.S.Store.objects w c.in-Some.kind c.in-Some-lead.outcome c.lead-2.new.world (c.in-Some-lead.ensures.came reliable w stands alive))

pub returns-in-Some-step-clause-came : goal.returns-in-Some-step-clause-came
returns-in-Some-step-clause-came g c = λ reliable w stands alive.
    let objects = g.S.Store.objects in
    let first = c.in-None.ensures.came reliable w stands alive in
    subst (λ (f : Option Kind). CameThrough objects f w (Some c.in-Some-step.outcome) None c.step.new.world) (sym c.in-Some.is)
    (through_fault objects w c.in-Some.kind c.lead-2.new.world first c.in-Some-step.outcome c.step.new.world
    (c.in-Some-step.ensures.came (c.lead-2.ensures.reliable reliable) first.later first.stands (alive_there objects w c.in-Some.kind c.lead-2.new.world first)))

pub returns-in-None-step-clause-came : goal.returns-in-None-step-clause-came
returns-in-None-step-clause-came g c = λ reliable w stands alive.
    let objects = g.S.Store.objects in
    let first = c.in-None.ensures.came reliable w stands alive in
    let step = c.in-None-step.ensures.came (c.lead-2.ensures.reliable reliable) first.later first.stands (alive_there objects w c.in-Some.kind c.lead-2.new.world first) in
    subst (λ (f : Option Kind). CameThrough objects f w c.lead-in-None-step.result None c.lead-in-None-step.new.world) (sym c.in-Some.is)
    (through_behind objects w c.in-Some.kind c.lead-2.new.world first c.step.new.world step c.lead-in-None-step.result c.lead-in-None-step.new.world
    (c.lead-in-None-step.ensures.came (c.step.ensures.reliable (c.lead-2.ensures.reliable reliable)) step.later step.stands (alive_behind objects w c.in-Some.kind c.lead-2.new.world first c.step.new.world step)))
