use Rattle.std.proofs.Common.{◌≡◌, ◌∷◌, ◌++◌, [], List, sym, subst, rules}
use Rattle.log_hub.specs.Finishing.{AreShown}
use Rattle.log_hub.specs.declared.receipt.Receipt.{Receipt}
use Rattle.case_seats.proofs.Keeping.{shown_more}
use Rattle.case_seats.proofs.holding.gathered.Goals as goal

pub loop-place-preserved-in-Some-place : goal.loop-place-preserved-in-Some-place
loop-place-preserved-in-Some-place g c =
    let seat = c.into_parts-seat.result.0 in
    let more = c.into_parts-seat.result.1 in
    let receipts : c.append.new.self.items ≡ c.loop-place.receipts.items ++ more.items = search rules in
    let seats : c.push.new.self.items ≡ c.loop-place.seats.items ++ seat ∷ [] = search rules in
    subst (λ (all : List Receipt). AreShown all c.push.new.self.items) (sym receipts) (subst (AreShown (c.loop-place.receipts.items ++ more.items)) (sym seats) (shown_more c.loop-place.receipts.items more.items c.loop-place.seats.items seat c.loop-place.invariant c.into_parts-seat.ensures))
