-- What becomes of the calls of a store that loses them by a list of turns.
use Rattle.std.specs.Prelude.{◌≡◌, ◌⊎◌, ◌++◌, ℕ, List, [], ◌∷◌, drop, map, if◌then◌else◌, unwrap_or, Option, None, Some, Result, Ok, Err}
use Rattle.store_core.specs.Calls.{Flight, HasLanded, IsUntouched, MayHaveLanded, StandsAfter, put_told}
use Rattle.store_core.specs.Names.{is_commit}
use Rattle.store_core.specs.Memory.{stored_object}
use Rattle.store_core.specs.Objects.{Objects, object_at}
use Rattle.store_core.specs.declared.fault.StoreFault.{StoreFault}
use Rattle.store_core.specs.declared.fault.StoreFault.TheVariants.{Lost, Memory}
use Rattle.store_core.specs.declared.flaky.Flaky.{Flaky}
use Rattle.store_core.specs.declared.flaky.Turn.{Turn}
use Rattle.store_core.specs.declared.flaky.Turn.TheVariants.{Pass, LoseRequest, LoseAnswer, LandLate, LandTwice}
use Rattle.store_core.specs.declared.store.Put.{Put}
use Rattle.store_core.specs.declared.store.Put.TheVariants.{Created, Exists}

-- the turns that calls are still to meet
abbrev pub turns_left : {S : Type 0} → Flaky S → List Turn
turns_left flaky = drop flaky.met flaky.turns.items

-- the turn that comes first; where none is left, the call passes
abbrev pub first_turn : List Turn → Turn
first_turn [] = Pass
first_turn (turn ∷ turns) = turn

-- the turns behind the first
abbrev pub later_turns : List Turn → List Turn
later_turns [] = []
later_turns (turn ∷ turns) = turns

-- the turn that a put meets: one that was armed, where its name is a commit's, and else the one that comes first
abbrev pub turn_of_put : Option Turn → List Turn → List ℕ → Turn
turn_of_put armed turns name = if is_commit name then unwrap_or armed (first_turn turns) else first_turn turns

-- what is armed behind a put
abbrev pub armed_behind : Option Turn → List ℕ → Option Turn
armed_behind armed name = if is_commit name then None else armed

-- the puts that went in flight, in the order in which they were sent
abbrev pub puts_sent : {S : Type 0} → Flaky S → Flight
puts_sent flaky = map stored_object flaky.sent.items

-- a list or a get passes at this turn
abbrev pub PassesLook : Turn → Type 0
PassesLook Pass = Unit {0}
PassesLook LandTwice = Unit {0}
PassesLook LoseRequest = ⊥
PassesLook LoseAnswer = ⊥
PassesLook LandLate = ⊥

-- a list or a get is lost at this turn
abbrev pub LosesLook : Turn → Type 0
LosesLook Pass = ⊥
LosesLook LandTwice = ⊥
LosesLook LoseRequest = Unit {0}
LosesLook LoseAnswer = Unit {0}
LosesLook LandLate = Unit {0}

-- what a put answers where no call is lost or repeated, by what stood under the name; memory may have run out
abbrev pub IsSoundPut : Option (List ℕ) → Result Put StoreFault → Type 0
IsSoundPut found (Ok put) = put ≡ put_told found
IsSoundPut found (Err Lost) = ⊥
IsSoundPut found (Err Memory) = Unit {0}

-- A put whose answer is lost is told as lost, whether it has landed or was lost below; or memory ran out.
abbrev pub LosesAnswer : (landed lost_below : Type 0) → Result Put StoreFault → Type 0
LosesAnswer landed lost_below (Ok put) = ⊥
LosesAnswer landed lost_below (Err Lost) = landed ⊎ lost_below
LosesAnswer landed lost_below (Err Memory) = Unit {0}

-- A put that goes in flight is told as lost, and is the last of those that were sent; or memory ran out, and it is none.
abbrev pub SendsLate : List ℕ → List ℕ → Result Put StoreFault → Flight → Flight → Type 0
SendsLate name bytes (Ok put) old new = ⊥
SendsLate name bytes (Err Lost) old new = new ≡ old ++ (name, bytes) ∷ []
SendsLate name bytes (Err Memory) old new = new ≡ old

-- A put that is repeated is told that its name stands, unless it was lost below, or memory ran out.
abbrev pub LandsTwice : (lost_below : Type 0) → Result Put StoreFault → Type 0
LandsTwice lost_below (Ok put) = put ≡ Exists
LandsTwice lost_below (Err Lost) = lost_below
LandsTwice lost_below (Err Memory) = Unit {0}

-- The calls that come meet what they met before: no put is sent, no turn is met, and what is armed stays.
pub record KeepsTurns {S : Type 0} (old new : Flaky S) : Type 0 where
  pub sent : puts_sent new ≡ puts_sent old
  pub turns : turns_left new ≡ turns_left old
  pub armed : new.armed ≡ old.armed

-- What letting a put in flight take effect tells of the store below, and leaves there.
abbrev pub HasLandedAs : List ℕ → List ℕ → Result (Option Put) StoreFault → Objects × Flight → Objects × Flight → Type 0
HasLandedAs name bytes (Ok None) old new = ⊥
HasLandedAs name bytes (Ok (Some Created)) old new = HasLanded name bytes old new × (object_at old.0 name ≡ None) × StandsAfter Created bytes (object_at new.0 name)
HasLandedAs name bytes (Ok (Some Exists)) old new = HasLanded name bytes old new × StandsAfter Exists bytes (object_at new.0 name)
HasLandedAs name bytes (Err Lost) old new = MayHaveLanded name bytes old new
HasLandedAs name bytes (Err Memory) old new = IsUntouched old new
