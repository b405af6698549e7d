use Rattle.std.proofs.Common.{List, is_ok, subst, sym}
use Rattle.log_hub.specs.Finishing.{AreInLog}
use Rattle.log_hub.specs.Seats.{log_seen}
use Rattle.log_hub.specs.declared.receipt.Receipt.{Receipt}
use Rattle.case_seats.proofs.Keeping.{kept_more, kept_on, ran_on, ran_shown}
use Rattle.case_seats.proofs.holder.Holder.work.Goals as goal

pub invariant_of-self : goal.invariant_of-self
invariant_of-self g c =
    let old = c.args.self.now in
    let new = c.run_stream-answer.new.seat in
    let ran = c.run_stream-answer.ensures.run in
    record {
      shown = subst (λ (items : List Receipt). AreInLog items (log_seen new)) (sym c.push.ensures.items)
          (kept_more (is_ok c.push.result) old.receipts.items c.in-Some.receipt (log_seen old.seat) (log_seen new) (ran_on _ _ _ _ _ _ ran) (ran_shown _ _ _ _ _ _ c.in-Some.receipt ran c.in-Some.is) old.shown);
    }

pub invariant_of-self-in-None : goal.invariant_of-self-in-None
invariant_of-self-in-None g c =
    let old = c.args.self.now in
    record { shown = kept_on old.receipts.items (log_seen old.seat) (log_seen c.run_stream-answer.new.seat) (ran_on _ _ _ _ _ _ c.run_stream-answer.ensures.run) old.shown }
