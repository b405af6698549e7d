-- What the parts of a test are.
use Rattle.std.proofs.Common.{◌≡◌, Bool, true, false, ◌&&◌, ◌||◌, refl}
use Rattle.std.specs.Prelude.{not}

pub and_true : (b : Bool) → b ≡ b && true
and_true true = refl
and_true false = refl

pub and_false : (b : Bool) → false ≡ b && false
and_false true = refl
and_false false = refl

pub or_true : (a b : Bool) → b ≡ true → a || b ≡ true
or_true true b e = refl
or_true false b e = e

pub neither : (a b : Bool) → a || b ≡ false → (a ≡ false) × (b ≡ false)
neither true b e = absurd cc
neither false b e = (refl, e)

pub not_true : (b : Bool) → not b ≡ true → b ≡ false
not_true true e = absurd cc
not_true false e = refl

pub not_false : (b : Bool) → not b ≡ false → b ≡ true
not_false true e = refl
not_false false e = absurd cc

pub all_four : (a b c d : Bool) → a && b && c && d ≡ true → (a ≡ true) × (b ≡ true) × (c ≡ true) × (d ≡ true)
all_four false b c d e = absurd cc
all_four true false c d e = absurd cc
all_four true true false d e = absurd cc
all_four true true true d e = (refl, refl, refl, e)
