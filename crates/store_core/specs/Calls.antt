-- What a call of a store tells and leaves, also of a store that loses calls.
-- Of a store two things are told: its objects, and its puts in flight. A put in flight was sent, its answer was lost,
-- and it may take effect later, between two calls.
use Rattle.std.specs.Prelude.{◌≡◌, ◌<◌, ◌+◌, ◌-◌, ◌^◌, ◌⊎◌, ◌++◌, ◌∷◌, ℕ, zero, suc, List, Option, None, Some, IsSome, Result, Ok, Err}
use Rattle.store_core.specs.Objects.{Objects, with_object}
use Rattle.store_core.specs.declared.store.Put.{Put}
use Rattle.store_core.specs.declared.store.Put.TheVariants.{Created, Exists}
use Rattle.store_core.specs.declared.fault.StoreFault.{StoreFault}
use Rattle.store_core.specs.declared.fault.StoreFault.TheVariants.{Lost, Memory}

-- the puts in flight: names with bytes, each as often as it was sent
abbrev pub Flight : Type 0
Flight = List (List ℕ × List ℕ)

-- what a put is told where no call is lost or repeated, by what stands under the name
abbrev pub put_told : Option (List ℕ) → Put
put_told None = Created
put_told (Some bytes) = Exists

-- what stands under the name after a put: the bytes that were put where it was told that it created them, and
-- something in any case
abbrev pub StandsAfter : Put → List ℕ → Option (List ℕ) → Type 0
StandsAfter Created bytes found = found ≡ Some bytes
StandsAfter Exists bytes found = IsSome found

-- the put has taken effect
abbrev pub HasLanded : List ℕ → List ℕ → Objects × Flight → Objects × Flight → Type 0
HasLanded name bytes old new = (new.0 ≡ with_object old.0 name bytes) × (new.1 ≡ old.1)

-- the put is in flight: it may take effect later. It stands somewhere among those that were, which stay
abbrev pub GoesInFlight : List ℕ → List ℕ → Objects × Flight → Objects × Flight → Type 0
GoesInFlight name bytes old new = (new.0 ≡ old.0) × ((front back : Flight) × (old.1 ≡ front ++ back) × (new.1 ≡ front ++ (name, bytes) ∷ back))

-- nothing changed, so a put that left this never lands
abbrev pub IsUntouched : Objects × Flight → Objects × Flight → Type 0
IsUntouched old new = (new.0 ≡ old.0) × (new.1 ≡ old.1)

-- what may have become of a put that was lost
abbrev pub MayHaveLanded : List ℕ → List ℕ → Objects × Flight → Objects × Flight → Type 0
MayHaveLanded name bytes old new = HasLanded name bytes old new ⊎ (GoesInFlight name bytes old new ⊎ IsUntouched old new)

-- a count of faults rose. At the greatest number it stays, and counts as risen
abbrev pub HasRisen : ℕ → ℕ → Type 0
HasRisen old new = (old < new) ⊎ ((old ≡ 2 ^ 64 - 1) × (new ≡ old))

-- the count of faults rises in a call that is lost, and in no other
abbrev pub CountsFault : {X : Type 0} → Result X StoreFault → ℕ → ℕ → Type 0
CountsFault (Ok x) old new = new ≡ old
CountsFault (Err Lost) old new = HasRisen old new
CountsFault (Err Memory) old new = new ≡ old

-- a count of faults rose by one. At the greatest number it stays
abbrev pub RisesByOne : ℕ → ℕ → Type 0
RisesByOne old new = (new ≡ old + 1) ⊎ ((old ≡ 2 ^ 64 - 1) × (new ≡ old))

-- the count of faults rises by one in a call that is lost, and in no other
abbrev pub CountsOne : {X : Type 0} → Result X StoreFault → ℕ → ℕ → Type 0
CountsOne (Ok x) old new = new ≡ old
CountsOne (Err Lost) old new = RisesByOne old new
CountsOne (Err Memory) old new = new ≡ old

-- So many calls were made, one behind the other, and nothing else was done: `makes` says what one call may make of a store.
abbrev pub MadeCalls : {S : Type 0} → (makes : S → S → Type 0) → ℕ → S → S → Type 0
MadeCalls {S} makes zero old new = new ≡ old
MadeCalls {S} makes (suc more) old new = (mid : S) × makes old mid × MadeCalls makes more mid new
