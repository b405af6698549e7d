use Rattle.log_hub.specs.Seats.{log_seen}
use Rattle.case_seats.proofs.Keeping.{grown_by, kept_on}
use Rattle.case_seats.proofs.holder.Holder.get.Goals as goal

-- what the seat was given receipts for stands in its log still
pub invariant_of-self : goal.invariant_of-self
invariant_of-self g c =
    let old = c.args.self.now in
    let grown = grown_by c.get.result old.seat c.get.new.seat (λ told made. c.the_log_of_a_seat_only_grows.ensures.front old.seat c.get.new.seat _ _ made) c.get.ensures.made c.get.ensures.err in
    record { shown = kept_on old.receipts.items (log_seen old.seat) (log_seen c.get.new.seat) grown old.shown }
