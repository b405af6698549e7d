use Rattle.std.proofs.Common.{◌≡◌, ◌-◌}
use Rattle.lake_bytes.specs.Internal.{IsHeld, number_left}
use Rattle.lake_bytes.proofs.hybrid.Bits.fill.Given as goal

abbrev pub invariant-loop-self : goal.invariant-loop-self
invariant-loop-self l = record { held : IsHeld l.self; left : number_left l.self ≡ number_left l.initial.self }

abbrev pub decreases-loop-self : goal.decreases-loop-self
decreases-loop-self l = l.width - l.self.held
