-- On what a call answers: an `Option`, a `Result`, a `Put`.
use Rattle.std.proofs.Common.{◌≡◌, ℕ, true, false, List, Option, None, Some, Result, Ok, Err, is_some, refl}
use Rattle.std.specs.Result.{IfOk}
use Rattle.store_core.specs.Calls.{put_told}
use Rattle.store_core.specs.declared.store.Put.TheVariants.{Created, Exists}

-- a name that stands is told as such
pub put_told_stands : (found : Option (List ℕ)) → is_some found ≡ true → put_told found ≡ Exists
put_told_stands None h = cc
put_told_stands (Some bytes) h = refl

-- an absent name is told to be created
pub put_told_absent : (found : Option (List ℕ)) → is_some found ≡ false → put_told found ≡ Created
put_told_absent None h = refl
put_told_absent (Some bytes) h = cc

-- what is not there is `None`
pub none_from_is_some : {T : Type 0} (found : Option T) → is_some found ≡ false → found ≡ None
none_from_is_some None h = refl
none_from_is_some (Some v) h = cc

-- what follows from the value of an `Ok`
pub if_ok_then : {T E : Type 0} {P Q : T → Type 0} (r : Result T E) → ((v : T) → P v → Q v) → IfOk r P → IfOk r Q
if_ok_then (Ok v) f h = f v h
if_ok_then (Err e) f h = tt
