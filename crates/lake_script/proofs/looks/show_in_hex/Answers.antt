use Rattle.std.proofs.Common.{inl}
use Rattle.lake_script.proofs.AnyStoreLemmas.{digits_told, none_told, shown_told, unanswered_lost}
use Rattle.lake_script.proofs.looks.show_in_hex.Goals as goal

pub returns-in-Ok-Some-clause-any : goal.returns-in-Ok-Some-clause-any
returns-in-Ok-Some-clause-any g c =
    let object = rw c.in-Ok-Some.field-0-is at c.in-Ok-Some.ensures.object in
    ((c.in-Ok-Some.ensures.untouched, c.in-Ok-Some.ensures.in_flight), inl (inl (digits_told _ _ object), c.in-Ok-Some.ensures.faults))

pub returns-in-Ok-None-clause-any : goal.returns-in-Ok-None-clause-any
returns-in-Ok-None-clause-any g c =
    let object = rw c.in-Ok-None.field-0-is at c.in-Ok-None.ensures.object in
    ((c.in-Ok-None.ensures.untouched, c.in-Ok-None.ensures.in_flight), inl (inl (none_told _ object), c.in-Ok-None.ensures.faults))

pub returns-in-Err-clause-any : goal.returns-in-Err-clause-any
returns-in-Err-clause-any g c =
    shown_told (g.S.Store.objects c.args.store.now, g.S.Store.in_flight c.args.store.now) (g.S.Store.objects c.hex_of.new.store, g.S.Store.in_flight c.hex_of.new.store) _ _
    _ c.in-Err.fault (c.in-Err.ensures.untouched, c.in-Err.ensures.in_flight) c.in-Err.ensures.faults

pub returns-in-Err-clause-told_lost : goal.returns-in-Err-clause-told_lost
returns-in-Err-clause-told_lost g c = λ is. unanswered_lost c.in-Err.fault is
