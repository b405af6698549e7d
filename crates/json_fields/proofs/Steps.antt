-- Steps that may fail: the first fault is the fault of the whole.
use Rattle.std.proofs.Common.{◌≡◌, ℕ, List, Option, Some, None, option_map, Result, refl, ap}
use Rattle.outcomes.specs.Results.{◌>>=◌}
use Rattle.json_fields.specs.declared.fault.FieldFault.{FieldFault}
use Rattle.json_fields.specs.declared.fault.FieldFault.TheVariants as faults
use Rattle.json_fields.specs.Gives.{Fails}

pub fails_first : {A B : Type 0} (e : FieldFault) (r : Result A (List ℕ)) (f : A → Result B (List ℕ)) → Fails e r → Fails e (r >>= f)
fails_first faults.Memory r f h = tt
fails_first (faults.BadField field) r f h = ap (λ (x : Result _ (List ℕ)). x >>= f) h

-- a number is seen as itself
pub numbers_stay : (o : Option ℕ) → option_map (λ n. n) o ≡ o
numbers_stay None = refl
numbers_stay (Some n) = refl
