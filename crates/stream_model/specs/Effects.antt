-- What an event does to a world that it fits.
use Rattle.std.specs.Prelude.{◌≡◌, ℕ, List, [], Some, None, slice_get, unwrap_or}
use Rattle.store_core.specs.Objects.{Objects, object_at}
use Rattle.session_core.specs.Talks.{Asked, Bears, Talk, Told, told_lost, told_memory}
use Rattle.session_laws.specs.Jobs.{Job}
use Rattle.stream_model.specs.Events.{Event, HasActor, ComesToTalk, act, answer, begin, die, land, lose_answer}
use Rattle.session_core.specs.CallEffects.{left_by_call, told_by_call}
use Rattle.stream_model.specs.Worlds.{Actor, Hand, How, IsBegunAs, World, acted, asking, ended, fresh, late, lost, once, short, twice, waiting}

-- a session that has made a step asks for a call, or has ended
abbrev pub HasStepped : Hand → Type 0
HasStepped (asking call) = Unit {0}
HasStepped (ended outcome) = Unit {0}
HasStepped hand = ⊥

-- The session of an actor has gone on by an event: its talk is that behind it, and it has made a step. What stands and what is in flight are
-- as they were.
pub record HasGoneOn (w : World) (event : Event) (name : ℕ) (later : World) : Type 0 where
  pub actor : Actor
  pub now : Talk
  pub taken : ComesToTalk w event name actor now
  pub hand : Hand
  pub stepped : HasStepped hand
  pub there : HasActor later name (record actor { talk = now; hand = hand })
  pub objects : later.objects ≡ w.objects
  pub flight : later.flight ≡ w.flight

-- a put has taken effect: its name stands, with the bytes that it had, and else with those of the put
abbrev pub HasTakenEffect : (objects later : Objects) → (put : List ℕ × List ℕ) → Type 0
HasTakenEffect objects later put = object_at later put.0 ≡ Some (unwrap_or (object_at objects put.0) put.1)

-- What is told of a call: where it takes effect what it does, at the second time where it does so twice; and else that it was lost, or that
-- memory ran out.
abbrev pub IsAnswered : How → Objects → Asked → Told → Type 0
IsAnswered once objects call told = told ≡ told_by_call objects call
IsAnswered twice objects call told = told ≡ told_by_call (left_by_call objects call) call
IsAnswered late objects call told = told ≡ told_lost
IsAnswered lost objects call told = told ≡ told_lost
IsAnswered short objects call told = told ≡ told_memory

-- An actor's call is answered so: the answer waits, and what it puts stands or is in flight.
pub record HasAnswered (w : World) (name : ℕ) (how : How) (later : World) : Type 0 where
  pub actor : Actor
  pub call : Asked
  pub told : Told
  pub was : HasActor w name actor
  pub asks : actor.hand ≡ asking call
  pub answered : IsAnswered how w.objects call told
  pub waits : HasActor later name (record actor { hand = waiting call told })
  pub acts : later ≡ acted w name actor call how

-- An actor has begun its job, with what some talk told that stands of it, and has asked for nothing yet.
pub record HasBegun (w : World) (name : ℕ) (job : Job) (later : World) : Type 0 where
  pub begun : Job
  pub before : Talk
  pub same : IsBegunAs job begun
  pub borne : Bears w.objects before
  pub there : HasActor later name (record { job = job; begun = begun; before = before; talk = []; hand = fresh })

-- An actor has begun or is gone; its call was answered so; its session has gone on; or a put in flight has taken effect, and stays in flight.
abbrev pub HasEffect : (w : World) → Event → (later : World) → Type 0
HasEffect w (begin name job) later = HasBegun w name job later
HasEffect w (die name) later = later.actors name ≡ None
HasEffect w (act name how) later = HasAnswered w name how later
HasEffect w (answer name) later = HasGoneOn w (answer name) name later
HasEffect w (lose_answer name) later = HasGoneOn w (lose_answer name) name later
HasEffect w (land place) later = (put : List ℕ × List ℕ) × (slice_get w.flight place ≡ Some put) × HasTakenEffect w.objects later.objects put × (later.flight ≡ w.flight)
