use Rattle.std.proofs.Common.{◌≡◌, ◌∙◌, Option, None, Some, false, refl, subst, sym, true}
use Rattle.store_core.specs.Calls.{Flight}
use Rattle.store_core.specs.Objects.{Objects}
use Rattle.store_core.specs.Turns.{puts_sent}
use Rattle.session_core.specs.Talks.{asked_view, told_view}
use Rattle.stream_world.specs.Hands.{is_at_hand}
use Rattle.stream_world.specs.EventViews.{how_view}
use Rattle.table_jobs.specs.Sessions.{awaited}
use Rattle.stream_world.specs.Standing.{CallMeets, SlotStands}
use Rattle.stream_world.specs.declared.actor.Actor as code
use Rattle.stream_world.specs.OverAnyStore.{AsksStore, HandMeets, SlotMeets}
use Rattle.stream_world.specs.declared.actor.Hand.{Hand}
use Rattle.stream_world.specs.declared.actor.Hand.TheVariants as hands
use Rattle.stream_world.proofs.Acted.{AsksNothing, acted_as, acts_at_store, nobody_acted, not_acted}
use Rattle.stream_world.proofs.Hands.{ready_waits}
use Rattle.stream_world.proofs.acting.act.Goals as goal

pub returns-in_default-clause-acts : goal.returns-in_default-clause-acts
returns-in_default-clause-acts g c = λ reliable w name objects flight stands.
    let was : c.args.slot.now ≡ None = sym c.take.ensures.value ∙ c.in_default.is in
    acts_at_store w name (how_view c.args.how) _ _ None _ false objects flight c.take.ensures.after
    (nobody_acted w name (how_view c.args.how) (subst (λ (s : Option code.Actor). SlotStands s (w.actors name)) was stands))

pub invariant_of-waiting : goal.invariant_of-waiting
invariant_of-waiting g c = record {
  unended = c.in-Some.actor.unended;
  ready = ready_waits (awaited c.in-Some.actor.session) c.in-Asks.request c.answer-reply.result (subst (λ (h : Hand). is_at_hand (awaited c.in-Some.actor.session) h ≡ true) c.in-Asks.is c.in-Some.actor.ready) c.answer-reply.ensures.kind;
}

pub returns-in-Asks-clause-acts : goal.returns-in-Asks-clause-acts
returns-in-Asks-clause-acts g c = λ reliable w name objects flight stands.
    let s = g.S.Store in
    let was : c.args.slot.now ≡ Some c.in-Some.actor = sym c.take.ensures.value ∙ c.in-Some.is in
    let at_store_meets = c.answer-reply.ensures.meets reliable in
    let at_objects = subst (λ (o : Objects). CallMeets (how_view c.args.how) (asked_view c.in-Asks.request) (told_view c.answer-reply.result) o (puts_sent c.args.store.now) (s.objects c.answer-reply.new.store.store) (puts_sent c.answer-reply.new.store)) (sym objects) at_store_meets in
    let meets = subst (λ (f : Flight). CallMeets (how_view c.args.how) (asked_view c.in-Asks.request) (told_view c.answer-reply.result) w.objects f (s.objects c.answer-reply.new.store.store) (puts_sent c.answer-reply.new.store)) (sym flight) at_objects in
    acted_as w name (how_view c.args.how) c.in-Some.actor _ c.in-Asks.request c.answer-reply.result _ _ c.is_told_out-is_out.result (subst (λ (o : Option code.Actor). SlotStands o (w.actors name)) was stands) c.in-Asks.is meets refl refl c.is_told_out-is_out.ensures

pub returns-in-Fresh-clause-acts : goal.returns-in-Fresh-clause-acts
returns-in-Fresh-clause-acts g c = λ reliable w name objects flight stands.
    let was : c.args.slot.now ≡ Some c.in-Some.actor = sym c.take.ensures.value ∙ c.in-Some.is in
    acts_at_store w name (how_view c.args.how) _ _ _ _ false objects flight refl
    (not_acted w name (how_view c.args.how) c.in-Some.actor _ (subst (λ (o : Option code.Actor). SlotStands o (w.actors name)) was stands) (subst AsksNothing (sym c.in-Fresh.is) tt) refl (sym c.in-Fresh.is))

pub returns-in-Waits-clause-acts : goal.returns-in-Waits-clause-acts
returns-in-Waits-clause-acts g c = λ reliable w name objects flight stands.
    let was : c.args.slot.now ≡ Some c.in-Some.actor = sym c.take.ensures.value ∙ c.in-Some.is in
    acts_at_store w name (how_view c.args.how) _ _ _ _ false objects flight refl
    (not_acted w name (how_view c.args.how) c.in-Some.actor _ (subst (λ (o : Option code.Actor). SlotStands o (w.actors name)) was stands) (subst AsksNothing (sym c.in-Waits.is) tt) refl (sym c.in-Waits.is))

-- ---- over any store

pub returns-in_default-clause-over : goal.returns-in_default-clause-over
returns-in_default-clause-over g c =
    let asks = AsksStore g.S.Store.makes (λ store. (g.S.Store.objects store, g.S.Store.in_flight store)) g.S.Store.fault_count in
    let store = c.args.store.now.store in
    let sent : Flight = puts_sent c.args.store.now in
    let was : c.args.slot.now ≡ None = sym c.take.ensures.value ∙ c.in_default.is in
    subst (λ (o : Option code.Actor). SlotMeets asks (how_view c.args.how) o c.take.new.self store store sent sent) (sym was)
    (subst (λ (o : Option code.Actor). SlotMeets asks (how_view c.args.how) None o store store sent sent) (sym c.take.ensures.after) (refl, refl))

pub returns-in-Asks-clause-over : goal.returns-in-Asks-clause-over
returns-in-Asks-clause-over g c =
    let asks = AsksStore g.S.Store.makes (λ store. (g.S.Store.objects store, g.S.Store.in_flight store)) g.S.Store.fault_count in
    let old = c.args.store.now in
    let new = c.answer-reply.new.store in
    let was : c.args.slot.now ≡ Some c.in-Some.actor = sym c.take.ensures.value ∙ c.in-Some.is in
    let met = subst (λ (h : Hand). HandMeets asks (how_view c.args.how) h (hands.Waits c.answer-reply.result) old.store new.store (puts_sent old) (puts_sent new)) (sym c.in-Asks.is) c.answer-reply.ensures.any in
    rw was (refl, met)

pub returns-in-Fresh-clause-over : goal.returns-in-Fresh-clause-over
returns-in-Fresh-clause-over g c =
    let asks = AsksStore g.S.Store.makes (λ store. (g.S.Store.objects store, g.S.Store.in_flight store)) g.S.Store.fault_count in
    let at = c.args.store.now in
    let was : c.args.slot.now ≡ Some c.in-Some.actor = sym c.take.ensures.value ∙ c.in-Some.is in
    let met = subst (λ (h : Hand). HandMeets asks (how_view c.args.how) h hands.Fresh at.store at.store (puts_sent at) (puts_sent at)) (sym c.in-Fresh.is) (refl, refl, refl) in
    rw was (refl, met)

pub returns-in-Waits-clause-over : goal.returns-in-Waits-clause-over
returns-in-Waits-clause-over g c =
    let asks = AsksStore g.S.Store.makes (λ store. (g.S.Store.objects store, g.S.Store.in_flight store)) g.S.Store.fault_count in
    let at = c.args.store.now in
    let was : c.args.slot.now ≡ Some c.in-Some.actor = sym c.take.ensures.value ∙ c.in-Some.is in
    let met = subst (λ (h : Hand). HandMeets asks (how_view c.args.how) h (hands.Waits c.in-Waits.reply) at.store at.store (puts_sent at) (puts_sent at)) (sym c.in-Waits.is) (refl, refl, refl) in
    rw was (refl, met)
