use Rattle.std.proofs.Common.{◌≡◌, ◌∷◌, ◌++◌, [], List, Vec, subst}
use Rattle.std.specs.Global.{Global}
use Rattle.log_hub.specs.declared.receipt.Receipt.{Receipt}
use Rattle.case_seats.specs.Keeping.{AreKept}
use Rattle.case_seats.proofs.Keeping.{kept_by_last}
use Rattle.case_seats.proofs.holding.placed.Goals as goal

pub of_parts-requires : goal.of_parts-requires
of_parts-requires g c =
    let kept : c.loop-seat.kept.items ≡ c.pop-in-Some.new.self.items ++ c.in-Some-pop.receipts ∷ [] = c.in-Some-pop.ensures.items in
    let seats : c.loop-seat.seats.items ≡ c.pop.new.self.items ++ c.in-Some.seat ∷ [] = c.in-Some.ensures.items in
    (kept_by_last c.pop-in-Some.new.self.items c.in-Some-pop.receipts c.pop.new.self.items c.in-Some.seat (subst (AreKept (c.pop-in-Some.new.self.items ++ c.in-Some-pop.receipts ∷ [])) seats (subst (λ (all : List (Vec Receipt Global)). AreKept all c.loop-seat.seats.items) kept c.loop-seat.invariant))).1

pub loop-seat-preserved : goal.loop-seat-preserved
loop-seat-preserved g c =
    let kept : c.loop-seat.kept.items ≡ c.pop-in-Some.new.self.items ++ c.in-Some-pop.receipts ∷ [] = c.in-Some-pop.ensures.items in
    let seats : c.loop-seat.seats.items ≡ c.pop.new.self.items ++ c.in-Some.seat ∷ [] = c.in-Some.ensures.items in
    (kept_by_last c.pop-in-Some.new.self.items c.in-Some-pop.receipts c.pop.new.self.items c.in-Some.seat (subst (AreKept (c.pop-in-Some.new.self.items ++ c.in-Some-pop.receipts ∷ [])) seats (subst (λ (all : List (Vec Receipt Global)). AreKept all c.loop-seat.seats.items) kept c.loop-seat.invariant))).0
