-- Steps of which each went well.
use Rattle.std.proofs.Common.{◌≡◌, Bool, true, false, Result, Ok, Err, refl}
use Rattle.outcomes.specs.Results.{◌>>=◌, refused_as, refused_if}

pub ok_step : {A B E : Type 0} (read : Result A E) (f : A → Result B E) (b : B) → (read >>= f) ≡ Ok b
    → (a : A) × (read ≡ Ok a) × (f a ≡ Ok b)
ok_step (Ok a) f b h = (a, refl, h)
ok_step (Err e) f b h = absurd cc

pub fine_step : {A B E F : Type 0} (tell : E → F) (read : Result A E) (f : A → Result B F) (b : B)
    → (refused_as tell read >>= f) ≡ Ok b → (a : A) × (read ≡ Ok a) × (f a ≡ Ok b)
fine_step tell (Ok a) f b h = (a, refl, h)
fine_step tell (Err e) f b h = absurd cc

pub kept_step : {B E : Type 0} (test : Bool) (refusal : E) (next : Result B E) (b : B)
    → (refused_if test refusal >>= λ x. next) ≡ Ok b → (test ≡ false) × (next ≡ Ok b)
kept_step true refusal next b h = absurd cc
kept_step false refusal next b h = (refl, h)
