-- Steps of which one may find nothing.
use Rattle.std.specs.Prelude.{Option, Some, None}

-- first this, then what follows from it, where both say something
infixl 10 ◌>>=◌
abbrev pub ◌>>=◌ : {A B : Type 0} → Option A → (A → Option B) → Option B
None >>= f = None
(Some x) >>= f = f x
