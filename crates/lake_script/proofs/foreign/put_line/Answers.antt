use Rattle.std.proofs.Common.{◌∙◌}
use Rattle.lake_script.proofs.AnyStoreLemmas.{foreign_put}
use Rattle.lake_script.proofs.foreign.put_line.Goals as goal

pub returns-clause-put : goal.returns-clause-put
returns-clause-put g c =
    let put = c.put_absent.ensures in
    foreign_put (g.S.Store.objects c.args.store.now, g.S.Store.in_flight c.args.store.now) (g.S.Store.objects c.put_absent.new.self, g.S.Store.in_flight c.put_absent.new.self) _ _
    c.args.version c.args.action.now _ _ (c.deref.ensures ∙ c.in_ok-name.ensures) c.in_ok-bytes.ensures
    c.put_absent.result put.stands put.landed put.created put.lost put.memory put.faults
