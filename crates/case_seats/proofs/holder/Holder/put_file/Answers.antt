use Rattle.std.proofs.Common.{inl, rules}
use Rattle.log_hub.specs.Seats.{log_seen}
use Rattle.case_seats.proofs.Keeping.{grown_by, kept_on}
use Rattle.case_seats.proofs.holder.Holder.put_file.Goals as goal

-- what the seat was given receipts for stands in its log still
pub invariant_of-self : goal.invariant_of-self
invariant_of-self g c =
    let old = c.args.self.now in
    let grown = grown_by c.put_file.result old.seat c.put_file.new.seat (λ told made. c.the_log_of_a_seat_only_grows.ensures.front old.seat c.put_file.new.seat _ _ made) c.put_file.ensures.made c.put_file.ensures.err in
    record { shown = kept_on old.receipts.items (log_seen old.seat) (log_seen c.put_file.new.seat) grown old.shown }

pub put_file-requires : goal.put_file-requires
put_file-requires g c = λ objects may. inl (c.in_ok-is_beside.ensures (search rules) objects)
