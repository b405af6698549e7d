use Rattle.std.proofs.Common.{◌≡◌, ℕ, zero, suc, ◌-◌, ◌<◌, ◌/◌, ◌%◌, ◌^◌, ◌∷◌, ◌∙◌, ap, refl, arith}
use Rattle.lake_bytes.specs.Hybrid.{unpacked}
use Rattle.lake_bytes.specs.Internal.{number_left}
use Rattle.lake_bytes.specs.Tested.{values_left}
use Rattle.lake_bytes.proofs.hybrid_reader.take_equal.Goals as goal

at_one : (width count number : ℕ) → 0 < count
    → unpacked width count number ≡ number % 2 ^ width ∷ unpacked width (count - 1) (number / 2 ^ width)
unfolding unpacked
at_one width zero number some = absurd (omega arith)
at_one width (suc count) number some = let one : suc count - 1 ≡ count = omega arith in rw one refl

pub returns-in-Packed-clause-values : goal.returns-in-Packed-clause-values
returns-in-Packed-clause-values c =
    let count = c.args.run.now.count in
    ap (values_left c.args.width count) c.in-Packed.is
    ∙ at_one c.args.width count (number_left c.in-Packed.bits) c.requires.some
    ∙ rw (c.next.ensures.value, c.next.ensures.left) refl
