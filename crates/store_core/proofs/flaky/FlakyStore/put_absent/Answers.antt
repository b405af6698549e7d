use Rattle.std.proofs.Common.{◌≡◌, map, ap, subst, ◌∙◌, Result}
use Rattle.std.specs.Result.{IsErrOf}
use Rattle.store_core.specs.Memory.{stored_object}
use Rattle.store_core.specs.Turns.{puts_sent}
use Rattle.store_core.specs.declared.fault.StoreFault.{StoreFault}
use Rattle.store_core.specs.declared.fault.StoreFault.TheVariants.{Lost}
use Rattle.store_core.specs.declared.store.Put.{Put}
use Rattle.store_core.proofs.FlightLemmas.{lost_above, late_above}
use Rattle.store_core.proofs.flaky.FlakyStore.put_absent.Goals as goal

pub returns-in-Pass-clause-lost : goal.returns-in-Pass-clause-lost
returns-in-Pass-clause-lost g c = λ is.
    let lost : IsErrOf c.put_absent-answer.result Lost = subst (λ (r : Result Put StoreFault). IsErrOf r Lost) c.counted.ensures.answer is in
    let store : c.counted.new.self.store ≡ c.put_absent-answer.new.self = ap (λ s. s.store) c.counted.ensures.kept in
    let sent : puts_sent c.counted.new.self ≡ puts_sent c.args.self.now = ap puts_sent c.counted.ensures.kept ∙ (λ i. map stored_object (c.turn_of_put.ensures.sent i).items) in
    lost_above g.S.Store.objects g.S.Store.in_flight c.args.name.now c.args.bytes.items _ _ _ _ _ _ c.turn_of_put.ensures.kept.0 store sent (c.put_absent-answer.ensures.lost lost)

pub returns-in_default-clause-lost : goal.returns-in_default-clause-lost
returns-in_default-clause-lost g c = λ is.
    let lost : IsErrOf c.put_absent-answer-in-LoseAnswer.result Lost = subst (λ (r : Result Put StoreFault). IsErrOf r Lost) c.counted-in_default.ensures.answer is in
    let store : c.counted-in_default.new.self.store ≡ c.put_absent-answer-in-LoseAnswer.new.self = ap (λ s. s.store) c.counted-in_default.ensures.kept in
    let sent : puts_sent c.counted-in_default.new.self ≡ puts_sent c.args.self.now = ap puts_sent c.counted-in_default.ensures.kept ∙ (λ i. map stored_object (c.turn_of_put.ensures.sent i).items) in
    lost_above g.S.Store.objects g.S.Store.in_flight c.args.name.now c.args.bytes.items _ _ _ _ _ _ c.turn_of_put.ensures.kept.0 store sent (c.put_absent-answer-in-LoseAnswer.ensures.lost lost)

pub returns-in-LandLate-clause-lost : goal.returns-in-LandLate-clause-lost
returns-in-LandLate-clause-lost g c = λ is.
    let sent : puts_sent c.turn_of_put.new.self ≡ puts_sent c.args.self.now = λ i. map stored_object (c.turn_of_put.ensures.sent i).items in
    late_above g.S.Store.objects g.S.Store.in_flight c.args.name.now c.args.bytes.items _ _ _ _ _ _ (c.send.ensures.kept.0 ∙ c.turn_of_put.ensures.kept.0) sent c.send.ensures.sent is

pub returns-in_default-answer-clause-lost : goal.returns-in_default-answer-clause-lost
returns-in_default-answer-clause-lost g c = λ is.
    let lost : IsErrOf c.put_absent-answer-in-LandTwice.result Lost = subst (λ (r : Result Put StoreFault). IsErrOf r Lost) c.counted-in_default-answer.ensures.answer is in
    let store : c.counted-in_default-answer.new.self.store ≡ c.put_absent-answer-in-LandTwice.new.self = ap (λ s. s.store) c.counted-in_default-answer.ensures.kept in
    let sent : puts_sent c.counted-in_default-answer.new.self ≡ puts_sent c.args.self.now = ap puts_sent c.counted-in_default-answer.ensures.kept ∙ (λ i. map stored_object (c.turn_of_put.ensures.sent i).items) in
    lost_above g.S.Store.objects g.S.Store.in_flight c.args.name.now c.args.bytes.items _ _ _ _ _ _ c.turn_of_put.ensures.kept.0 store sent (c.put_absent-answer-in-LandTwice.ensures.lost lost)
