use Rattle.log_hub.specs.Seats.{log_seen}
use Rattle.case_seats.proofs.Keeping.{kept_on, read_on}
use Rattle.case_seats.proofs.holder.Holder.read_rows.Goals as goal

-- what the seat was given receipts for stands in its log still
pub invariant_of-self : goal.invariant_of-self
invariant_of-self g c =
    let old = c.args.self.now in
    record { shown = kept_on old.receipts.items (log_seen old.seat) (log_seen c.run_read.new.seat) (read_on _ _ _ _ _ _ _ c.run_read.ensures.run) old.shown }
