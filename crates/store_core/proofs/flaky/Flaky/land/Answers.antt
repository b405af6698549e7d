use Rattle.std.proofs.Common.{◌≡◌, Some, Ok, Err, ap, sym, ◌∙◌}
use Rattle.std.proofs.lemmas.Result.{err_from_is_err_and}
use Rattle.store_core.proofs.FlightLemmas.{of_copy, landed_ok, landed_err}
use Rattle.store_core.specs.Calls.{put_told}
use Rattle.store_core.specs.Objects.{object_at}
use Rattle.store_core.specs.Turns.{HasLandedAs}
use Rattle.store_core.proofs.flaky.Flaky.land.Goals as goal

pub returns-clause-landed : goal.returns-clause-landed
returns-clause-landed g c = λ name bytes at.
    let e = c.put_absent-answer.ensures in
    let is = sym c.counted.ensures.answer ∙ c.in_ok-told.was in
    of_copy (λ n b. HasLandedAs n b (Ok (Some c.in_ok-told.told)) (g.S.Store.objects c.args.self.now.store, g.S.Store.in_flight c.args.self.now.store) (g.S.Store.objects c.counted.new.self.store, g.S.Store.in_flight c.counted.new.self.store))
    (c.in-Some.name, c.in-Some.bytes) c.deref.result.now name bytes _ _ c.in_ok-name.ensures.same at c.in-Some.is c.deref.ensures
    (landed_ok g.S.Store.objects g.S.Store.in_flight _ _ _ _ _ _ c.in_ok-told.told is (ap (λ s. s.store) c.counted.ensures.kept) e.landed e.created e.stands)

pub returns-clause-told : goal.returns-clause-told
returns-clause-told g c = λ name bytes at reliable.
    of_copy (λ n b. ◌≡◌ (Some c.in_ok-told.told) (Some (put_told (object_at (g.S.Store.objects c.args.self.now.store) n))))
    (c.in-Some.name, c.in-Some.bytes) c.deref.result.now name bytes _ _ c.in_ok-name.ensures.same at c.in-Some.is c.deref.ensures
    (ap Some (rw (sym c.counted.ensures.answer ∙ c.in_ok-told.was) at (c.put_absent-answer.ensures.told reliable)))

pub returns-in_err-told-clause-landed : goal.returns-in_err-told-clause-landed
returns-in_err-told-clause-landed g c = λ name bytes at.
    let p = err_from_is_err_and c.from_residual-in_err-told.result c.from_residual-in_err-told.ensures.1 in
    let is = sym c.counted.ensures.answer ∙ c.in_err-told.was in
    rw (p.1, p.2)
    (of_copy (λ n b. HasLandedAs n b (Err c.in_err-told.field-0.0) (g.S.Store.objects c.args.self.now.store, g.S.Store.in_flight c.args.self.now.store) (g.S.Store.objects c.counted.new.self.store, g.S.Store.in_flight c.counted.new.self.store))
    (c.in-Some.name, c.in-Some.bytes) c.deref.result.now name bytes _ _ c.in_ok-name.ensures.same at c.in-Some.is c.deref.ensures
    (landed_err g.S.Store.objects g.S.Store.in_flight _ _ _ _ _ _ c.in_err-told.field-0.0 is (ap (λ s. s.store) c.counted.ensures.kept) c.put_absent-answer.ensures.lost c.put_absent-answer.ensures.memory))
