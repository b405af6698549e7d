use Rattle.std.proofs.Common.{[], List, Option, is_ok, sym, subst}
use Rattle.log_hub.specs.Finishing.{AreInLog}
use Rattle.log_hub.specs.Seats.{log_seen}
use Rattle.log_hub.specs.declared.receipt.Receipt.{Receipt}
use Rattle.lake_workers.specs.Driving.{IsReceiptOf}
use Rattle.case_seats.proofs.Keeping.{kept_more, kept_on}
use Rattle.case_seats.proofs.holder.Holder.drive_amid.Goals as goal

-- nothing was known before
pub drive_with-end-requires-clause-fits : goal.drive_with-end-requires-clause-fits
drive_with-end-requires-clause-fits g c = ([], c.new-session.ensures.fits [], λ objects may. tt)

pub invariant_of-self : goal.invariant_of-self
invariant_of-self g c =
    let old = c.args.self.now in
    let new = c.drive_with-end.new.seat in
    let driven = c.drive_with-end.ensures.driven [] (c.new-session.ensures.fits []) (λ objects may. tt) in
    let created = subst (λ (found : Option Receipt). IsReceiptOf driven.made new found) c.in-Some.is driven.created in
    record { shown = subst (λ (items : List Receipt). AreInLog items (log_seen new)) (sym c.push.ensures.items) (kept_more (is_ok c.push.result) old.receipts.items c.in-Some.receipt (log_seen old.seat) (log_seen new) driven.log created.1 old.shown) }

pub invariant_of-self-in-None : goal.invariant_of-self-in-None
invariant_of-self-in-None g c =
    let old = c.args.self.now in
    let driven = c.drive_with-end.ensures.driven [] (c.new-session.ensures.fits []) (λ objects may. tt) in
    record { shown = kept_on old.receipts.items (log_seen old.seat) (log_seen c.drive_with-end.new.seat) driven.log old.shown }
