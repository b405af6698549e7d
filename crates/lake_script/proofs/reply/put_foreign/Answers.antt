use Rattle.lake_script.proofs.AnyStoreLemmas.{put_counts, put_told, unanswered_lost, unput_told}
use Rattle.lake_script.proofs.reply.put_foreign.Goals as goal

pub returns-in-Ok-clause-any : goal.returns-in-Ok-clause-any
returns-in-Ok-clause-any g c =
    put_told (g.S.Store.objects c.args.store.now, g.S.Store.in_flight c.args.store.now) (g.S.Store.objects c.put_line.new.store, g.S.Store.in_flight c.put_line.new.store) _ _
    c.args.version c.args.action.now c.in-Ok.put c.in-Ok.ensures.put

pub returns-in-Err-clause-any : goal.returns-in-Err-clause-any
returns-in-Err-clause-any g c =
    unput_told (g.S.Store.objects c.args.store.now, g.S.Store.in_flight c.args.store.now) (g.S.Store.objects c.put_line.new.store, g.S.Store.in_flight c.put_line.new.store) _ _
    c.args.version c.args.action.now c.in-Err.fault c.in-Err.ensures.put

pub returns-in-Err-clause-told_lost : goal.returns-in-Err-clause-told_lost
returns-in-Err-clause-told_lost g c = λ is. unanswered_lost c.in-Err.fault is

pub returns-in-Ok-clause-cache : goal.returns-in-Ok-clause-cache
returns-in-Ok-clause-cache g c = c.new.ensures.cache (g.S.Store.objects c.put_line.new.store)

pub returns-in-Err-clause-cache : goal.returns-in-Err-clause-cache
returns-in-Err-clause-cache g c = c.new.ensures.cache (g.S.Store.objects c.put_line.new.store)
