use Rattle.std.proofs.Common.{ℕ, Err, Ok, Result, subst, sym}
use Rattle.std.specs.Global.{Global}
use Rattle.std.specs.Prelude.{Vec}
use Rattle.std.proofs.lemmas.Result.{err_from_is_err_and}
use Rattle.session_core.specs.Stores.{State}
use Rattle.snapshot_core.specs.ToldSnapshots.{IsSnapshotTold}
use Rattle.snapshot_core.specs.declared.fault.SnapshotFault.{SnapshotFault}
use Rattle.snapshot_core.proofs.ToldLemmas.{told_of_fault, told_of_loaded}
use Rattle.snapshot_core.proofs.telling.snapshot.Goals as goal

pub returns-clause-told : goal.returns-clause-told
returns-clause-told g c =
    let old : State = (g.S.Store.objects c.args.store.now, g.S.Store.in_flight c.args.store.now) in
    let new : State = (g.S.Store.objects c.catch_up.new.store, g.S.Store.in_flight c.catch_up.new.store) in
    told_of_loaded c.args.use_checkpoints c.catch_up.new.cache old new _ _ c.in_ok-catch_up.ensures.told
    c.snapshot_text.result (c.snapshot_text.ensures.told, c.snapshot_text.ensures.refused) c.snapshot_text.ensures.never_lost

pub returns-clause-driven : goal.returns-clause-driven
returns-clause-driven g c = (Ok tt, c.in_ok-catch_up.ensures.driven, (c.snapshot_text.ensures.told, c.snapshot_text.ensures.refused))

-- ---- where the log wasn't loaded

pub returns-in_err-catch_up-clause-told : goal.returns-in_err-catch_up-clause-told
returns-in_err-catch_up-clause-told g c =
    let old : State = (g.S.Store.objects c.args.store.now, g.S.Store.in_flight c.args.store.now) in
    let new : State = (g.S.Store.objects c.catch_up.new.store, g.S.Store.in_flight c.catch_up.new.store) in
    let count = g.S.Store.fault_count c.args.store.now in
    let later = g.S.Store.fault_count c.catch_up.new.store in
    let p = err_from_is_err_and c.from_residual.result c.from_residual.ensures.1 in
    subst (λ (answer : Result (Vec ℕ Global) SnapshotFault). IsSnapshotTold c.args.use_checkpoints answer c.catch_up.new.cache old new count later) (sym p.1)
    (told_of_fault c.args.use_checkpoints c.catch_up.new.cache old new count later c.in_err-catch_up.field-0.0 c.in_err-catch_up.ensures.told p.0 p.2)

pub returns-in_err-catch_up-clause-driven : goal.returns-in_err-catch_up-clause-driven
returns-in_err-catch_up-clause-driven g c =
    let p = err_from_is_err_and c.from_residual.result c.from_residual.ensures.1 in
    (Err c.in_err-catch_up.field-0.0, c.in_err-catch_up.ensures.driven, p)
