-- What a call of an actor does over any store, one that itself loses calls, too: what that store tells waits then, that it lost the call as anything else.
use Rattle.std.specs.Prelude.{◌≡◌, ℕ, Option, None, Some, true}
use Rattle.store_core.specs.Calls.{Flight}
use Rattle.store_core.specs.Turns.{puts_sent}
use Rattle.session_core.specs.Stores.{MakesCall, MayAnswer, State}
use Rattle.session_core.specs.Talks.{Asked, CountsTold, Told, asked_view, told_lost, told_memory, told_view}
use Rattle.stream_model.specs.Worlds.{How, late, lost, once, short, twice}
use Rattle.stream_world.specs.Calling.{IsSentCall, again}
use Rattle.stream_world.specs.Standing.{slot_at}
use Rattle.stream_world.specs.declared.actor.Actor as code_actor
use Rattle.stream_world.specs.declared.actor.Hand as code_hand
use Rattle.stream_world.specs.declared.actor.Hand.TheVariants as hands
use Rattle.stream_world.specs.declared.world.World as code_world

-- The store was asked this and told that, and came to be another by that one call: what it may answer and leave, and a lost call is counted where it tells of one.
pub record AsksStore {S : Type 0} (makes : S → S → Type 0) (state : S → State) (faults : S → ℕ) (call : Asked) (told : Told) (old new : S) : Type 0 where
  pub answered : MayAnswer (state old) call told (state new)
  pub counted : CountsTold told (faults old) (faults new)
  pub called : MakesCall makes old call told new

-- What may be told of a call that is to be answered in some way, and left of the store below and in flight in front of it, where asking the store below is this.
abbrev pub MayMeet : {S : Type 0} → (asks : Asked → Told → S → S → Type 0) → How → Asked → Told → (old new : S) → (flight later : Flight) → Type 0
MayMeet asks once call told old new flight later = asks call told old new × (later ≡ flight)
MayMeet asks twice call told old new flight later = (first : Told) × asks call first old new × (told ≡ again first) × (later ≡ flight)
MayMeet asks late call told old new flight later = (new ≡ old) × IsSentCall call told flight later
MayMeet asks lost call told old new flight later = (told ≡ told_lost) × (new ≡ old) × (later ≡ flight)
MayMeet asks short call told old new flight later = (told ≡ told_memory) × (new ≡ old) × (later ≡ flight)

-- What a session has at hand behind its call: the answer, where it asked for one. Else nothing has changed.
abbrev pub HandMeets : {S : Type 0} → (asks : Asked → Told → S → S → Type 0) → How → code_hand.Hand → code_hand.Hand → (old new : S) → (flight later : Flight) → Type 0
HandMeets asks how (hands.Asks request) (hands.Waits reply) old new flight later = MayMeet asks how (asked_view request) (told_view reply) old new flight later
HandMeets asks how (hands.Asks request) hand old new flight later = ⊥
HandMeets asks how hand same old new flight later = (same ≡ hand) × (new ≡ old) × (later ≡ flight)

-- the same of what is kept of an actor, whose session stays
abbrev pub SlotMeets : {S : Type 0} → (asks : Asked → Told → S → S → Type 0) → How → Option code_actor.Actor → Option code_actor.Actor → (old new : S) → (flight later : Flight) → Type 0
SlotMeets asks how (Some actor) (Some next) old new flight later = (next.session ≡ actor.session) × HandMeets asks how actor.hand next.hand old new flight later
SlotMeets asks how None None old new flight later = (new ≡ old) × (later ≡ flight)
SlotMeets asks how slot other old new flight later = ⊥

-- And of a world: what is kept of the actor of that number; nobody else is touched, and a world that was short stays so.
pub record WorldMeets {S : Type 0} (asks : Asked → Told → S → S → Type 0) (how : How) (name : ℕ) (old new : code_world.World S) : Type 0 where
  pub slot : SlotMeets asks how (slot_at old name) (slot_at new name) old.store.store new.store.store (puts_sent old.store) (puts_sent new.store)
  pub others : (other : ℕ) → (other ≡ name → ⊥) → slot_at new other ≡ slot_at old other
  pub still : old.is_short ≡ true → new.is_short ≡ true
