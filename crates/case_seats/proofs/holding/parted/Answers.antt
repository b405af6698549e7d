use Rattle.std.proofs.Common.{◌≡◌, ◌∷◌, ◌++◌, [], List, Vec, sym, subst, rules}
use Rattle.std.specs.Global.{Global}
use Rattle.log_hub.specs.declared.receipt.Receipt.{Receipt}
use Rattle.case_seats.specs.Keeping.{AreKept}
use Rattle.case_seats.proofs.Keeping.{kept_by_more}
use Rattle.case_seats.proofs.holding.parted.Goals as goal

pub loop-place-preserved-in-Continue-branch-2 : goal.loop-place-preserved-in-Continue-branch-2
loop-place-preserved-in-Continue-branch-2 g c =
    let seat = c.into_parts-seat.result.0 in
    let receipts = c.into_parts-seat.result.1 in
    let kept : c.push-in-Some-place.new.self.items ≡ c.loop-place.kept.items ++ receipts ∷ [] = search rules in
    let seats : c.push.new.self.items ≡ c.loop-place.seats.items ++ seat ∷ [] = search rules in
    subst (λ (all : List (Vec Receipt Global)). AreKept all c.push.new.self.items) (sym kept) (subst (AreKept (c.loop-place.kept.items ++ receipts ∷ [])) (sym seats) (kept_by_more c.loop-place.kept.items receipts c.loop-place.seats.items seat c.loop-place.invariant c.into_parts-seat.ensures))
