use Rattle.std.proofs.Common.{◌∙◌, sym, ap}
use Rattle.world_script.specs.Acting.{goes}
use Rattle.world_script.proofs.Leading.{led_end, led_halt, led_more, led_none}
use Rattle.world_script.proofs.acting.lead.Goals as goal

pub steps-init : goal.steps-init
steps-init g c = record {
  led = λ reliable w stands alive. led_none g.S.Store.objects c.args.actor c.args.halts_at_commit w c.args.world.now stands alive;
  reliable = λ reliable. reliable;
}

pub steps-preserved : goal.steps-preserved
steps-preserved g c = record {
  led = λ reliable w stands alive.
      let led = c.steps.invariant.led reliable w stands alive in
      led_more g.S.Store.objects c.args.actor c.args.halts_at_commit w c.steps.world c.step.new.world led
      (ap (goes c.args.halts_at_commit) (c.next_of.ensures.next led.later led.stands) ∙ (sym c.goes.ensures ∙ c.steps-test.true))
      (c.in-None.ensures.came (c.steps.invariant.reliable reliable) led.later led.stands led.alive);
  reliable = λ reliable. c.step.ensures.reliable (c.steps.invariant.reliable reliable);
}

pub returns-in-Some-clause-came : goal.returns-in-Some-clause-came
returns-in-Some-clause-came g c = λ reliable w stands alive.
    let led = c.steps.invariant.led reliable w stands alive in
    led_end g.S.Store.objects c.args.actor c.args.halts_at_commit w c.steps.world c.step.new.world led
    (ap (goes c.args.halts_at_commit) (c.next_of.ensures.next led.later led.stands) ∙ (sym c.goes.ensures ∙ c.steps-test.true)) c.in-Some.outcome
    (c.in-Some.ensures.came (c.steps.invariant.reliable reliable) led.later led.stands led.alive)

pub returns-clause-came : goal.returns-clause-came
returns-clause-came g c = λ reliable w stands alive.
    let led = c.steps.invariant.led reliable w stands alive in
    led_halt g.S.Store.objects c.args.actor c.args.halts_at_commit w c.steps.world led
    (ap (goes c.args.halts_at_commit) (c.next_of.ensures.next led.later led.stands) ∙ (sym c.goes.ensures ∙ c.steps-test.false))
