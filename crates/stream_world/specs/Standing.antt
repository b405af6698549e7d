-- Which world a world of the code stands for, and what became of it by an event.
use Rattle.std.specs.Prelude.{◌≡◌, ◌||◌, ℕ, List, [], Option, None, Some, Result, Ok, Err, option_and_then, option_map, slice_get, Bool, true, false}
use Rattle.std.specs.declared.alloc.AllocError.{AllocError}
use Rattle.std.specs.BTreeMap.{get}
use Rattle.std.specs.Ordering.{nat_cmp}
use Rattle.store_core.specs.Calls.{Flight, put_told}
use Rattle.store_core.specs.Objects.{Objects, object_at}
use Rattle.store_core.specs.Turns.{puts_sent}
use Rattle.store_core.specs.declared.fault.StoreFault.{StoreFault}
use Rattle.store_core.specs.declared.fault.StoreFault.TheVariants.{Lost, Memory}
use Rattle.store_core.specs.declared.store.Put.{Put}
use Rattle.session_core.specs.Talks.{Asked, Talk, Told, asked_view, told_view}
use Rattle.table_jobs.specs.Jobs.{Job, Outcome}
use Rattle.stream_model.specs.Events.{Event, FitsWorld, HasActor, Happens, act, answer, begin, land, lose_answer}
use Rattle.table_log.specs.Loads.{IsFront}
use Rattle.stream_model.specs.Worlds.{Actor, BearsActors, Hand, How, KnowsFront, World, anew, asking, ended, flight_how, fresh, left_how, told_how, waiting}
use Rattle.stream_world.specs.EventViews.{IsMetAs, IsMetIn, ran_out}
use Rattle.table_jobs.specs.Sessions.{SessionFits, job_of, end_view}
use Rattle.table_jobs.specs.Wants.{outcome_wants}
use Rattle.stream_world.specs.declared.actor.Actor as code_actor
use Rattle.stream_world.specs.declared.actor.Hand as code_hand
use Rattle.stream_world.specs.declared.actor.Hand.TheVariants as hands
use Rattle.table_jobs.specs.declared.job_session.JobEnd as code_end
use Rattle.stream_world.specs.declared.world.World as code_world

-- ---- actors

-- the call for whose answer an actor waits
abbrev pub call_of : Hand → Option Asked
call_of fresh = None
call_of (asking call) = Some call
call_of (waiting call told) = Some call
call_of (ended outcome) = None

-- what it has at hand is the same, behind this talk
abbrev pub HandStands : code_hand.Hand → Talk → Hand → Type 0
HandStands hands.Fresh talk fresh = talk ≡ []
HandStands (hands.Asks request) talk (asking call) = asked_view request ≡ call
HandStands (hands.Waits reply) talk (waiting call told) = told_view reply ≡ told
HandStands hand talk plain = ⊥

-- An actor of the code, and one of a world: the session does the same job with the same known of the log, may have had that talk behind the one
-- by which that was known, and has the same at hand.
pub record ActorStands (actor : code_actor.Actor) (plain : Actor) : Type 0 where
  pub job : job_of actor.session ≡ plain.begun
  pub fit : SessionFits plain.before actor.session plain.talk (call_of plain.hand)
  pub hand : HandStands actor.hand plain.talk plain.hand

abbrev pub HasEnded : Hand → Type 0
HasEnded (ended outcome) = Unit {0}
HasEnded hand = ⊥

-- of an actor whose session has ended the code keeps nothing
abbrev pub SlotStands : Option code_actor.Actor → Option Actor → Type 0
SlotStands (Some actor) (Some plain) = ActorStands actor plain
SlotStands (Some actor) None = ⊥
SlotStands None (Some plain) = HasEnded plain.hand
SlotStands None None = Unit {0}

-- ---- worlds

-- what is kept of the actor of a number
abbrev pub slot_at : {S : Type 0} → code_world.World S → ℕ → Option code_actor.Actor
slot_at world name = option_and_then (λ slot. slot) (get nat_cmp world.actors name)

-- A world of the code stands for one: its objects, its puts in flight and its actors are the same; what stands bears what its sessions were
-- told, and what is known of the log is so.
pub record WorldStands {S : Type 0} (stored : S → Objects) (world : code_world.World S) (w : World) : Type 0 where
  pub objects : w.objects ≡ stored world.store.store
  pub flight : w.flight ≡ puts_sent world.store
  pub actors : (name : ℕ) → SlotStands (slot_at world name) (w.actors name)
  pub borne : BearsActors w
  pub known : IsFront (stored world.store.store) world.known

-- ---- what happened

-- what is told, with the job of the session that told it
abbrev pub TellsAs : Option code_end.JobEnd → Option (Job × Outcome) → Type 0
TellsAs None None = Unit {0}
TellsAs (Some outcome) (Some told) = told.1 ≡ end_view outcome
TellsAs outcome told = ⊥

-- A call is answered in this way, or memory ran out in it: what is told, and what stands and is in flight then.
pub record CallMeets (how : How) (call : Asked) (told : Told) (objects : Objects) (flight : Flight) (objects_new : Objects) (flight_new : Flight) : Type 0 where
  pub met : How
  pub is : IsMetIn how met
  pub told_so : told ≡ told_how met objects call
  pub left : objects_new ≡ left_how met objects call
  pub in_flight : flight_new ≡ flight_how met flight call

-- what a session that has ended hands back of the log, of a load, a checkpoint, an append or a close, is so of these objects
abbrev pub HandsBackFront : Objects → Option code_end.JobEnd → Type 0
HandsBackFront objects None = Unit {0}
HandsBackFront objects (Some outcome) = KnowsFront objects (end_view outcome)

-- What became of a world by an event of the actor of a number, for whom this is kept then.
pub record Becomes (w : World) (event : Event) (name : ℕ) (outcome : Option code_end.JobEnd) (objects : Objects) (flight : Flight) (slot : Option code_actor.Actor) : Type 0 where
  pub met : Event
  pub is : IsMetAs event met
  pub told : Option (Job × Outcome)
  pub tells : TellsAs outcome told
  pub later : World
  pub happens : Happens w met told later
  pub objects_now : later.objects ≡ objects
  pub flight_now : later.flight ≡ flight
  pub slot_now : SlotStands slot (later.actors name)
  pub others : (other : ℕ) → (other ≡ name → ⊥) → later.actors other ≡ w.actors other

-- What became of it by a call of that actor that is answered in this way, if it asks for one; and whether memory ran out in it, though it was to
-- be answered otherwise.
pub record ActsAs (w : World) (name : ℕ) (how : How) (objects : Objects) (flight : Flight) (slot : Option code_actor.Actor) (out : Bool) : Type 0 where
  pub became : Becomes w (act name how) name None objects flight slot
  pub out_so : out ≡ ran_out (act name how) became.met
  pub asked : out ≡ true → FitsWorld w (act name how)

-- what was told, if anything was, tells that a growth was refused, or that an object would have passed 64 MiB
abbrev pub told_wants : Option code_end.JobEnd → Bool
told_wants None = false
told_wants (Some outcome) = outcome_wants (end_view outcome)

-- where the event is a beginning, the actor knows nothing of the log
abbrev pub BeginsAnew : Event → World → Type 0
BeginsAnew (begin name job) later = HasActor later name (anew job)
BeginsAnew event later = Unit {0}

-- What happened to a world by an event, for which the world of the code stands then. A session that began knows nothing of the log. What was told hands back of the log what is so. The world of
-- the code is short now just where it was before, where memory ran out in the call that was asked for, though it was to be answered otherwise, or
-- where what was told tells so.
pub record HasHappened {S : Type 0} (objects : S → Objects) (was_short : Bool) (w : World) (event : Event) (outcome : Option code_end.JobEnd) (world : code_world.World S) : Type 0 where
  pub met : Event
  pub is : IsMetAs event met
  pub told : Option (Job × Outcome)
  pub tells : TellsAs outcome told
  pub later : World
  pub happens : Happens w met told later
  pub stands : WorldStands objects world later
  pub begins : BeginsAnew event later
  pub hands : HandsBackFront (objects world.store.store) outcome
  pub short : world.is_short ≡ (ran_out event met || (told_wants outcome || was_short))
  pub fits : ran_out event met ≡ true → FitsWorld w event

-- the events that take memory themselves: for an actor's place, or for the copy of a put that lands
abbrev pub TakesMemory : Event → Type 0
TakesMemory (begin name job) = Unit {0}
TakesMemory (land place) = Unit {0}
TakesMemory event = ⊥

-- The same of an event that may find no memory to begin with: then nothing has happened, and the world is short.
abbrev pub StepsTo : {S : Type 0} → (objects : S → Objects) → (was_short : Bool) → World → Event → Result (Option code_end.JobEnd) AllocError → code_world.World S → Type 0
StepsTo objects was_short w event (Ok outcome) world = HasHappened objects was_short w event outcome world
StepsTo objects was_short w event (Err fault) world = TakesMemory event × WorldStands objects world w × (world.is_short ≡ true)

-- the same of a beginning, which tells nothing
abbrev pub BeginsAs : {S : Type 0} → (objects : S → Objects) → (was_short : Bool) → World → Event → Result (Unit {0}) AllocError → code_world.World S → Type 0
BeginsAs objects was_short w event (Ok done) world = HasHappened objects was_short w event None world
BeginsAs objects was_short w event (Err fault) world = WorldStands objects world w × (world.is_short ≡ true)

-- An actor has begun a job, maybe with something known of the log: this job, behind this talk.
pub record HasBegunAs {S : Type 0} (objects : S → Objects) (was_short : Bool) (w : World) (name : ℕ) (job begun : Job) (before : Talk) (world : code_world.World S) : Type 0 where
  pub later : World
  pub happens : Happens w (begin name job) None later
  pub there : HasActor later name (record { job = job; begun = begun; before = before; talk = []; hand = fresh })
  pub stands : WorldStands objects world later
  pub short : world.is_short ≡ was_short

-- or memory ran out, and nothing has happened
abbrev pub PlacesAs : {S : Type 0} → (objects : S → Objects) → (was_short : Bool) → World → (name : ℕ) → (job begun : Job) → (before : Talk) → Result (Unit {0}) AllocError → code_world.World S → Type 0
PlacesAs objects was_short w name job begun before (Ok done) world = HasBegunAs objects was_short w name job begun before world
PlacesAs objects was_short w name job begun before (Err fault) world = WorldStands objects world w × (world.is_short ≡ true)

-- the same with whatever was known
abbrev pub BeginsKnowing : {S : Type 0} → (objects : S → Objects) → (was_short : Bool) → World → (name : ℕ) → Job → Result (Unit {0}) AllocError → code_world.World S → Type 0
BeginsKnowing objects was_short w name job result world = (begun : Job) × (before : Talk) × PlacesAs objects was_short w name job begun before result world

-- the session of an actor is to do this job
abbrev pub SlotDoes : Option code_actor.Actor → Job → Type 0
SlotDoes None job = ⊥
SlotDoes (Some actor) job = job_of actor.session ≡ job

-- what a put in flight is told that takes effect: whether its name was absent, or stood; nothing, where none of that number is in flight
abbrev pub landing_told : World → (place : ℕ) → Option Put
landing_told w place = option_map (λ (put : List ℕ × List ℕ). put_told (object_at w.objects put.0)) (slice_get w.flight place)

-- memory ran out in a landing
abbrev pub landing_out : Result (Option Put) StoreFault → Bool
landing_out (Err Memory) = true
landing_out result = false

-- and of a landing over a store that loses no call
abbrev pub LandsAs : {S : Type 0} → (objects : S → Objects) → (was_short : Bool) → World → (place : ℕ) → Result (Option Put) StoreFault → code_world.World S → Type 0
LandsAs objects was_short w place (Ok found) world = (found ≡ landing_told w place) × HasHappened objects was_short w (land place) None world
LandsAs objects was_short w place (Err Memory) world = WorldStands objects world w × (world.is_short ≡ true)
LandsAs objects was_short w place (Err Lost) world = ⊥

-- the event by which a session takes the answer that waits, or the loss of it
abbrev pub taking : (name : ℕ) → (is_lost : Bool) → Event
taking name true = lose_answer name
taking name false = answer name
