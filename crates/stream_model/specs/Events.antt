-- What may happen in a world: one event after the other, from a first one.
use Rattle.std.specs.Prelude.{◌≡◌, ◌⊎◌, ℕ, List, [], ◌∷◌, ◌++◌, Option, None, Some, slice_get}
use Rattle.outcomes.specs.Bytes.{IsBytes}
use Rattle.store_core.specs.Objects.{Objects, with_object}
use Rattle.session_core.specs.Talks.{Asked, Bears, Talk, Told, put_commit, put_file, told_lost}
use Rattle.session_laws.specs.Jobs.{CanBegin, Job, Outcome}
use Rattle.session_laws.specs.Moves.{Does, asks, tells}
use Rattle.stream_model.specs.Worlds.{Actor, How, IsBegunAs, World, IsFirstStore, acted, asking, ended, first_world, fresh, waiting, with_actor}

-- An actor begins a session, dropping an older one, or dies; its call is answered in some way; its session goes on: it makes its first step,
-- or takes the answer that waits, or is told in place of it that the call was lost; or a put in flight takes effect, and stays in flight.
pub data Event : Type 0 where
  begin : (name : ℕ) → Job → Event
  die : (name : ℕ) → Event
  act : (name : ℕ) → How → Event
  answer : (name : ℕ) → Event
  lose_answer : (name : ℕ) → Event
  land : (place : ℕ) → Event

-- the actor of a number
abbrev pub HasActor : World → ℕ → Actor → Type 0
HasActor w name actor = w.actors name ≡ Some actor

-- whether an event fits a world: the job can begin, the actor waits for it, or the put is in flight
abbrev pub FitsWorld : World → Event → Type 0
FitsWorld w (begin name job) = CanBegin job
FitsWorld w (die name) = Unit {0}
FitsWorld w (act name how) = (actor : Actor) × (call : Asked) × HasActor w name actor × (actor.hand ≡ asking call)
FitsWorld w (answer name) = (actor : Actor) × HasActor w name actor × ((actor.hand ≡ fresh) ⊎ ((call : Asked) × (told : Told) × (actor.hand ≡ waiting call told)))
FitsWorld w (lose_answer name) = (actor : Actor) × (call : Asked) × (told : Told) × HasActor w name actor × (actor.hand ≡ waiting call told)
FitsWorld w (land place) = (put : List ℕ × List ℕ) × (slice_get w.flight place ≡ Some put)

-- By an event the session of an actor comes to this talk: it makes its first step, or takes the answer to its call, or that it was lost.
pub data ComesToTalk (w : World) : Event → (name : ℕ) → Actor → (now : Talk) → Type 0 where
  begins_now : (name : ℕ) (actor : Actor) → HasActor w name actor → actor.hand ≡ fresh → ComesToTalk w (answer name) name actor []
  takes : (name : ℕ) (actor : Actor) (call : Asked) (told : Told) → HasActor w name actor → actor.hand ≡ waiting call told → ComesToTalk w (answer name) name actor (actor.talk ++ (call, told) ∷ [])
  loses : (name : ℕ) (actor : Actor) (call : Asked) (told : Told) → HasActor w name actor → actor.hand ≡ waiting call told → ComesToTalk w (lose_answer name) name actor (actor.talk ++ (call, told_lost) ∷ [])

-- what is put is of numbers of eight bits
abbrev pub IsOfBytes : Asked → Type 0
IsOfBytes (put_file name bytes) = IsBytes bytes
IsOfBytes (put_commit version bytes) = IsBytes bytes
IsOfBytes asked = Unit {0}

-- What may become of a world by an event, and which outcome is told. A session begins with nothing known of the log, or with what some talk told
-- that the store bears, an earlier session's, say; it does whatever its job does next by its talk; what it puts is of numbers of eight bits, as a
-- program's bytes are. An event that doesn't fit changes nothing.
pub data Happens (w : World) : Event → (told : Option (Job × Outcome)) → World → Type 0 where
  begins : (name : ℕ) (job begun : Job) (before : Talk) → CanBegin job → IsBegunAs job begun → Bears w.objects before
      → Happens w (begin name job) None (with_actor w name (Some (record { job = job; begun = begun; before = before; talk = []; hand = fresh })))
  dies : (name : ℕ) → Happens w (die name) None (with_actor w name None)
  acts : (name : ℕ) (how : How) (actor : Actor) (call : Asked) → HasActor w name actor → actor.hand ≡ asking call → Happens w (act name how) None (acted w name actor call how)
  goes_on : (event : Event) (name : ℕ) (actor : Actor) (now : Talk) (call : Asked) → ComesToTalk w event name actor now → Does actor.begun actor.before now (asks call) → IsOfBytes call
      → Happens w event None (with_actor w name (Some (record actor { talk = now; hand = asking call })))
  ends : (event : Event) (name : ℕ) (actor : Actor) (now : Talk) (outcome : Outcome) → ComesToTalk w event name actor now → Does actor.begun actor.before now (tells outcome)
      → Happens w event (Some (actor.job, outcome)) (with_actor w name (Some (record actor { talk = now; hand = ended outcome })))
  lands : (place : ℕ) (put : List ℕ × List ℕ) → slice_get w.flight place ≡ Some put → Happens w (land place) None (record w { objects = with_object w.objects put.0 put.1 })
  nothing_happens : (event : Event) → (FitsWorld w event → ⊥) → Happens w event None w

-- the outcomes with one more, if one was told
abbrev pub with_told : List (Job × Outcome) → Option (Job × Outcome) → List (Job × Outcome)
with_told outs None = outs
with_told outs (Some one) = outs ++ one ∷ []

-- By these events, one after the other, a world came to another, and these outcomes were told.
pub data Ran (first : World) : List Event → List (Job × Outcome) → World → Type 0 where
  at_first : Ran first [] [] first
  then_one : (events : List Event) (outs : List (Job × Outcome)) (w : World) (event : Event) (told : Option (Job × Outcome)) (later : World) → Ran first events outs w → Happens w event told later
      → Ran first (events ++ event ∷ []) (with_told outs told) later

-- a world that came by these events from a first one
abbrev pub IsWorldOf : List Event → List (Job × Outcome) → World → Type 0
IsWorldOf events outs w = (first : Objects) × IsFirstStore first × Ran (first_world first) events outs w
