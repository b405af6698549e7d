use Rattle.std.proofs.Common.{inl}
use Rattle.lake_script.proofs.AnyStoreLemmas.{history_lost, history_told}
use Rattle.lake_script.proofs.looks.tell_history.Goals as goal

pub returns-in-Ok-clause-any : goal.returns-in-Ok-clause-any
returns-in-Ok-clause-any g c = ((c.in-Ok.ensures.untouched, c.in-Ok.ensures.in_flight), inl (inl c.in-Ok.ensures.told, c.in-Ok.ensures.faults))

pub returns-in-Err-clause-any : goal.returns-in-Err-clause-any
returns-in-Err-clause-any g c =
    history_told (g.S.Store.objects c.args.store.now, g.S.Store.in_flight c.args.store.now) (g.S.Store.objects c.history.new.store, g.S.Store.in_flight c.history.new.store) _ _
    _ c.in-Err.fault (c.in-Err.ensures.untouched, c.in-Err.ensures.in_flight) c.in-Err.ensures.faults

pub returns-in-Err-clause-told_lost : goal.returns-in-Err-clause-told_lost
returns-in-Err-clause-told_lost g c = λ is. history_lost c.in-Err.fault is
