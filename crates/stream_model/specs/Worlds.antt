-- Worlds of actors over one store: what stands, the puts that may take effect later, and what each actor's session has at hand.
use Rattle.std.specs.Prelude.{◌≡◌, ℕ, ◌==◌, List, [], ◌∷◌, ◌++◌, Option, Some, None, Ok, Err, if◌then◌else◌}
use Rattle.store_core.specs.Calls.{Flight}
use Rattle.store_core.specs.Objects.{Objects}
use Rattle.session_core.specs.CallEffects.{left_by_call, told_by_call}
use Rattle.session_core.specs.Talks.{Asked, Bears, IsBorne, Talk, Told, put_commit, put_file, told_lost, told_memory}
use Rattle.store_core.specs.Names.{commit_name}
use Rattle.table_log.specs.Loads.{IsFront}
use Rattle.table_log.specs.LoadSessions.{LoadJob}
use Rattle.session_laws.specs.Jobs.{Job, Outcome, checkpoint, checkpoints, creates, creation, load, loads, read, reads, stream, streams}

-- What a session has at hand: it has asked for nothing yet; it asks for a call; an answer to its call waits; or it has ended.
pub data Hand : Type 0 where
  fresh : Hand
  asking : Asked → Hand
  waiting : Asked → Told → Hand
  ended : Outcome → Hand

-- A job that begins with something known of the log, or with nothing: it is the same but for that.
abbrev pub IsBegunAs : (job begun : Job) → Type 0
IsBegunAs (creates job) begun = begun ≡ creates job
IsBegunAs (loads job) begun = (load : LoadJob) × (load.use_checkpoints ≡ job.use_checkpoints) × (begun ≡ loads load)
IsBegunAs (checkpoints job) begun = (load : LoadJob) × (load.use_checkpoints ≡ job.use_checkpoints) × (begun ≡ checkpoints load)
IsBegunAs (streams job) begun = (load : LoadJob) × (load.use_checkpoints ≡ job.load.use_checkpoints) × (begun ≡ streams (record job { load = load }))
IsBegunAs (reads job) begun = (known : List ℕ) × (begun ≡ reads (record job { known = known }))

-- An actor: what it was handed to do; the same with what its session knew of the log when it began, and a talk by which that was known; the
-- session's own talk so far; and what it has at hand.
pub record Actor : Type 0 where
  pub job : Job
  pub begun : Job
  pub before : Talk
  pub talk : Talk
  pub hand : Hand

-- A world: the objects that stand, the puts in flight, and the actors, by number.
pub record World : Type 0 where
  pub objects : Objects
  pub flight : Flight
  pub actors : ℕ → Option Actor

-- what may stand where a world begins: nothing yet
abbrev pub IsFirstStore : Objects → Type 0
IsFirstStore objects = objects ≡ []

-- the world in which these objects stand, nothing is in flight, and nobody acts
abbrev pub first_world : Objects → World
first_world objects = record { objects = objects; flight = []; actors = λ name. None }

-- what stands bears the answer that waits
abbrev pub BearsHand : Objects → Hand → Type 0
BearsHand objects (waiting call told) = IsBorne objects call told
BearsHand objects hand = Unit {0}

-- What stands bears the talk by which an actor's session knew something of the log, its own, and the answer that waits.
pub record BearsActor (objects : Objects) (actor : Actor) : Type 0 where
  pub earlier : Bears objects actor.before
  pub talk : Bears objects actor.talk
  pub hand : BearsHand objects actor.hand

-- so it is of each actor of a world
abbrev pub BearsActors : World → Type 0
BearsActors w = (name : ℕ) (actor : Actor) → w.actors name ≡ Some actor → BearsActor w.objects actor

-- What a session hands back that it knew of the log by its end is so of what stands: of a load, an append, a close or a checkpoint.
abbrev pub KnowsFront : Objects → Outcome → Type 0
KnowsFront objects (creation result) = Unit {0}
KnowsFront objects (load (Ok loaded)) = IsFront objects loaded
KnowsFront objects (load (Err fault)) = Unit {0}
KnowsFront objects (checkpoint end) = IsFront objects end.known
KnowsFront objects (stream end) = IsFront objects end.known
KnowsFront objects (read end) = Unit {0}

-- an actor that begins a job with nothing known of the log
abbrev pub anew : Job → Actor
anew job = record { job = job; begun = job; before = []; talk = []; hand = fresh }

-- the world with that actor under a number, or with none
abbrev pub with_actor : World → ℕ → Option Actor → World
with_actor w name found = record w { actors = λ other. if other == name then found else w.actors other }

-- ---- how calls are answered

-- the put that goes in flight; a list and a get don't
abbrev pub sent : Asked → Flight
sent (put_file name bytes) = (name, bytes) ∷ []
sent (put_commit version bytes) = (commit_name version, bytes) ∷ []
sent asked = []

-- How a call is answered. A list or a get that is late is lost: only puts go in flight.
pub data How : Type 0 where
  -- it takes effect, and its answer waits
  once : How
  -- it takes effect twice, and the second answer waits
  twice : How
  -- a put goes in flight, and that it was lost waits
  late : How
  -- it has no effect, and that it was lost waits
  lost : How
  -- it has no effect, and that memory ran out waits
  short : How

-- what such an answer tells
abbrev pub told_how : How → Objects → Asked → Told
told_how once objects asked = told_by_call objects asked
told_how twice objects asked = told_by_call (left_by_call objects asked) asked
told_how late objects asked = told_lost
told_how lost objects asked = told_lost
told_how short objects asked = told_memory

-- which objects it leaves
abbrev pub left_how : How → Objects → Asked → Objects
left_how once objects asked = left_by_call objects asked
left_how twice objects asked = left_by_call (left_by_call objects asked) asked
left_how how objects asked = objects

-- which puts are in flight then
abbrev pub flight_how : How → Flight → Asked → Flight
flight_how late flight asked = flight ++ sent asked
flight_how how flight asked = flight

-- the world behind an actor's call that is answered so
abbrev pub acted : World → ℕ → Actor → Asked → How → World
acted w name actor asked how =
    record (with_actor w name (Some (record actor { hand = waiting asked (told_how how w.objects asked) }))) {
      objects = left_how how w.objects asked;
      flight = flight_how how w.flight asked;
    }
