use Rattle.std.proofs.Common.{refl}
use Rattle.session_core.specs.Talks.{asked_view, told_view}
use Rattle.store_core.specs.Turns.{puts_sent}
use Rattle.stream_world.proofs.Calls.{once_met, twice_met}
use Rattle.stream_world.proofs.calling.answer.Goals as goal

pub returns-in-Once-clause-meets : goal.returns-in-Once-clause-meets
returns-in-Once-clause-meets g c = λ reliable.
    let s = g.S.Store in
    rw c.in-Once.is (once_met (asked_view c.args.request) (told_view c.ask.result) (s.objects c.args.store.now.store, s.in_flight c.args.store.now.store) (s.objects c.ask.new.store, s.in_flight c.ask.new.store) (puts_sent c.args.store.now)
    (c.ask.ensures.exact reliable))

pub returns-in-Twice-clause-meets : goal.returns-in-Twice-clause-meets
returns-in-Twice-clause-meets g c = λ reliable.
    let s = g.S.Store in
    rw c.in-Twice.is (twice_met (asked_view c.args.request) (told_view c.ask-in-Twice.result) (told_view c.asked_again.result) (s.objects c.args.store.now.store, s.in_flight c.args.store.now.store) (s.objects c.ask-in-Twice.new.store, s.in_flight c.ask-in-Twice.new.store) (puts_sent c.args.store.now)
    (c.ask-in-Twice.ensures.exact reliable) c.asked_again.ensures)

pub returns-in-Once-clause-any : goal.returns-in-Once-clause-any
returns-in-Once-clause-any g c = rw c.in-Once.is (record { answered = c.ask.ensures.answer; counted = c.ask.ensures.counted; called = c.ask.ensures.called }, refl)

pub returns-in-Twice-clause-any : goal.returns-in-Twice-clause-any
returns-in-Twice-clause-any g c =
    let asked = c.ask-in-Twice.ensures in
    rw c.in-Twice.is (told_view c.ask-in-Twice.result, record { answered = asked.answer; counted = asked.counted; called = asked.called }, c.asked_again.ensures, refl)

pub returns-in-Late-clause-any : goal.returns-in-Late-clause-any
returns-in-Late-clause-any g c = rw c.in-Late.is (c.send.ensures.store, c.send.ensures.sent)

pub returns-in-Lost-clause-any : goal.returns-in-Lost-clause-any
returns-in-Lost-clause-any g c = rw c.in-Lost.is (refl, refl, refl)

pub returns-in-Short-clause-any : goal.returns-in-Short-clause-any
returns-in-Short-clause-any g c = rw c.in-Short.is (refl, refl, refl)
