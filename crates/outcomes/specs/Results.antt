-- Steps of which one may be refused.
use Rattle.std.specs.Prelude.{Bool, true, false, Option, Some, None, Result, Ok, Err}

-- first this, then what follows from it, where neither is refused
infixl 10 ◌>>=◌
abbrev pub ◌>>=◌ : {A B E : Type 0} → Result A E → (A → Result B E) → Result B E
(Ok x) >>= f = f x
(Err e) >>= f = Err e

-- a value, or why there is none
abbrev pub or_refusal : {A E : Type 0} → Option A → E → Result A E
or_refusal None refusal = Err refusal
or_refusal (Some x) refusal = Ok x

-- nothing, or the refusal where a test says so
abbrev pub refused_if : {E : Type 0} → Bool → E → Result (Unit {0}) E
refused_if true refusal = Err refusal
refused_if false refusal = Ok tt

-- a refusal, told as another
abbrev pub refused_as : {A E F : Type 0} → (E → F) → Result A E → Result A F
refused_as tell (Ok x) = Ok x
refused_as tell (Err e) = Err (tell e)
