use Rattle.std.proofs.Common.{◌≡◌, ◌∙◌, List, ℕ, ◌+◌, ap, arith, refl, subst, sym}
use Rattle.std.proofs.lemmas.Iterator.Adapters.{YieldsList-from_vec}
use Rattle.std.proofs.lemmas.Iterator.Consumers.{YieldsList-end}
use Rattle.std.proofs.lemmas.List.{length_push, map-id}
use Rattle.stream_world.specs.Running.{HasRun}
use Rattle.stream_world.specs.declared.event.Event as code_event
use Rattle.stream_world.proofs.PairedTold.{sound_so, told_so}
use Rattle.stream_world.proofs.Runs.{run_more, run_none}
use Rattle.stream_world.proofs.running.run.Goals as goal

pub loop-event-init : goal.loop-event-init
loop-event-init g c =
    let s = g.S.Store in
    rw c.in_ok-told.ensures.items (record {
      each = refl;
      reliable = λ reliable. subst s.is_reliable (sym c.new-world.ensures.store) reliable;
      run = λ reliable. run_none s.objects (s.objects c.args.store) c.new-world.result c.new-world.ensures.stands c.new-world.ensures.unshort;
    })

pub loop-event-preserved : goal.loop-event-preserved
loop-event-preserved g c =
    let s = g.S.Store in
    let inv = c.loop-event.invariant in
    rw c.in_ok-push.ensures.items (record {
      each = length_push c.loop-event.told.items c.in_ok-outcome.outcome ∙ (ap (λ (n : ℕ). n + 1) inv.each ∙ sym (length_push c.loop-event.yielded c.in-Some.event));
      reliable = λ reliable. c.step.ensures.reliable (inv.reliable reliable);
      run = λ reliable.
          run_more s.objects (s.objects c.args.store) c.loop-event.yielded c.in-Some.event c.loop-event.told.items c.in_ok-outcome.outcome c.loop-event.world c.step.new.self (inv.run reliable)
          (c.in_ok-outcome.ensures.happens (inv.reliable reliable));
    })

pub returns-clause-sound : goal.returns-clause-sound
returns-clause-sound g c =
    let s = g.S.Store in
    let all : c.loop-event.yielded ≡ c.args.events.items =
    sym (map-id c.loop-event.yielded)
    ∙ (YieldsList-end (YieldsList-from_vec {s = c.into_iter-event-iterator.result} c.args.events.items c.into_iter-event-iterator.ensures.into_iter_gives.0 (omega arith))
    c.loop-event.yielded c.loop-event.event-iterator c.loop-event.yielded_by c.next.result c.next.new.self c.in-None.is c.next.ensures.steps).0 in
    λ reliable may.
    sound_so s.objects (s.objects c.args.store) c.args.events.items c.loop-event.told.items c.loop-event.world
    (subst (λ (seen : List code_event.Event). HasRun s.objects (s.objects c.args.store) seen c.loop-event.told.items c.loop-event.world) all (c.loop-event.invariant.run reliable))
    may c.every_world.ensures.sound

pub returns-clause-headline : goal.returns-clause-headline
returns-clause-headline g c =
    let s = g.S.Store in
    let all : c.loop-event.yielded ≡ c.args.events.items =
    sym (map-id c.loop-event.yielded)
    ∙ (YieldsList-end (YieldsList-from_vec {s = c.into_iter-event-iterator.result} c.args.events.items c.into_iter-event-iterator.ensures.into_iter_gives.0 (omega arith))
    c.loop-event.yielded c.loop-event.event-iterator c.loop-event.yielded_by c.next.result c.next.new.self c.in-None.is c.next.ensures.steps).0 in
    λ reliable may.
    told_so s.objects (s.objects c.args.store) c.args.events.items c.loop-event.told.items c.loop-event.world
    (subst (λ (seen : List code_event.Event). HasRun s.objects (s.objects c.args.store) seen c.loop-event.told.items c.loop-event.world) all (c.loop-event.invariant.run reliable))
    may c.every_world.ensures.headline
