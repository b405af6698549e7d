-- Through each event what stands bears each actor's talks and the answer that waits; and what a session hands back of the log is so.
use Rattle.std.proofs.Common.{ℕ, [], ◌∷◌, ◌++◌, Option, Some, None, inl, inr, subst}
use Rattle.std.specs.Prelude.{Ok, Err}
use Rattle.store_core.specs.Objects.{HasObjectsOf, Objects, with_object}
use Rattle.session_core.specs.Talks.{Asked, Bears, IsBorne, Talk, Told, told_lost}
use Rattle.session_core.proofs.Callers.{bears_grows, borne_grows}
use Rattle.session_laws.specs.Jobs.{Ends, Job, Outcome, checkpoint, checkpoints, creates, creation, load, loads, read, reads, stream, streams}
use Rattle.stream_model.specs.Events.{ComesToTalk, Event, Happens, acts, begins, begins_now, dies, ends, goes_on, lands, loses, nothing_happens, takes}
use Rattle.session_core.specs.CallEffects.{left_by_call}
use Rattle.stream_model.specs.Worlds.{Actor, BearsActor, BearsActors, BearsHand, Hand, How, KnowsFront, World, asking, ended, fresh, late, left_how, lost, once, short, told_how, twice, waiting, with_actor}
use Rattle.stream_model.proofs.Calls.{lost_borne, memory_borne, told_borne}
use Rattle.stream_model.proofs.Landing.{put_grew}
use Rattle.stream_model.proofs.Running.{how_grew}
use Rattle.stream_model.proofs.Steps.{actor_was, some_same}

-- ---- actors

-- one call more
bears_call : (objects : Objects) (talk : Talk) (asked : Asked) (told : Told) → Bears objects talk → IsBorne objects asked told → Bears objects (talk ++ (asked, told) ∷ [])
bears_call objects [] asked told borne one = (one, tt)
bears_call objects (call ∷ talk) asked told borne one = (borne.0, bears_call objects talk asked told borne.1 one)

-- more objects
hand_grows : (objects more : Objects) (hand : Hand) → HasObjectsOf objects more → BearsHand objects hand → BearsHand more hand
hand_grows objects more fresh grown borne = tt
hand_grows objects more (asking call) grown borne = tt
hand_grows objects more (waiting call told) grown borne = borne_grows objects more call told grown borne
hand_grows objects more (ended outcome) grown borne = tt

actor_grows : (objects more : Objects) (actor : Actor) → HasObjectsOf objects more → BearsActor objects actor → BearsActor more actor
actor_grows objects more actor grown bears = record {
  earlier = bears_grows objects more actor.before grown bears.earlier;
  talk = bears_grows objects more actor.talk grown bears.talk;
  hand = hand_grows objects more actor.hand grown bears.hand;
}

-- one actor that has changed, or is gone
with_borne : (w : World) (name : ℕ) (actor : Actor) → BearsActors w → BearsActor w.objects actor → BearsActors (with_actor w name (Some actor))
with_borne w name actor all own = λ other one is. elim (actor_was w name (Some actor) other one is) [
  | inl same ↦ subst (BearsActor w.objects) (some_same actor one same) own
  | inr there ↦ all other one there
]

without_borne : (w : World) (name : ℕ) → BearsActors w → BearsActors (with_actor w name None)
without_borne w name all = λ other one is. elim (actor_was w name None other one is) [
  | inl none ↦ absurd cc
  | inr there ↦ all other one there
]

-- what is told of a call is borne by what it leaves
how_borne : (how : How) (objects : Objects) (call : Asked) → IsBorne (left_how how objects call) call (told_how how objects call)
how_borne once objects call = told_borne objects call
how_borne twice objects call = told_borne (left_by_call objects call) call
how_borne late objects call = lost_borne objects call
how_borne lost objects call = lost_borne objects call
how_borne short objects call = memory_borne objects call

-- so is the talk that a session comes to
taken_borne : (w : World) (event : Event) (name : ℕ) (actor : Actor) (now : Talk) → BearsActors w → ComesToTalk w event name actor now → BearsActor w.objects actor × Bears w.objects now
taken_borne w event name actor now all (begins_now called one has is) = (all called one has, tt)
taken_borne w event name actor now all (takes called one call told has is) =
    let bears = all called one has in
    (bears, bears_call w.objects actor.talk call told bears.talk (subst (BearsHand w.objects) is bears.hand))
taken_borne w event name actor now all (loses called one call told has is) =
    let bears = all called one has in
    (bears, bears_call w.objects actor.talk call told_lost bears.talk (lost_borne w.objects call))

-- ---- events

-- Through an event what stands bears each actor's talks still.
pub bears_happens : (w : World) (event : Event) (told : Option (Job × Outcome)) (later : World) → Happens w event told later → BearsActors w → BearsActors later
bears_happens w event told later (begins name job begun before can same borne) all =
    with_borne w name (record { job = job; begun = begun; before = before; talk = []; hand = fresh }) all (record { earlier = borne; talk = tt; hand = tt })
bears_happens w event told later (dies name) all = without_borne w name all
bears_happens w event told later (acts name how actor call has is) all =
    let left = left_how how w.objects call in
    let grown = how_grew how w.objects call in
    let behind : BearsActors (record w { objects = left }) = λ other one there. actor_grows w.objects left one grown (all other one there) in
    let own = behind name actor has in
    with_borne (record w { objects = left }) name (record actor { hand = waiting call (told_how how w.objects call) }) behind (record { earlier = own.earlier; talk = own.talk; hand = how_borne how w.objects call })
bears_happens w event told later (goes_on made name actor now call taken does of_bytes) all =
    let so = taken_borne w event name actor now all taken in
    with_borne w name (record actor { talk = now; hand = asking call }) all (record { earlier = so.0.earlier; talk = so.1; hand = tt })
bears_happens w event told later (ends made name actor now outcome taken does) all =
    let so = taken_borne w event name actor now all taken in
    with_borne w name (record actor { talk = now; hand = ended outcome }) all (record { earlier = so.0.earlier; talk = so.1; hand = tt })
bears_happens w event told later (lands place put is) all = λ name actor has. actor_grows w.objects (with_object w.objects put.0 put.1) actor (put_grew w.objects put.0 put.1) (all name actor has)
bears_happens w event told later (nothing_happens made unfit) all = all

-- what a job hands back of the log behind talks that are borne is so
ends_front : (objects : Objects) (job : Job) (before now : Talk) (outcome : Outcome) → Bears objects before → Bears objects now → Ends job before now outcome → KnowsFront objects outcome
ends_front objects job before now (creation result) earlier borne told = tt
ends_front objects job before now (load (Err fault)) earlier borne told = tt
ends_front objects job before now (read end) earlier borne told = tt
ends_front objects (loads job) before now (load (Ok loaded)) earlier borne told = told.front objects earlier borne
ends_front objects (creates job) before now (load (Ok loaded)) earlier borne told = absurd told
ends_front objects (checkpoints job) before now (load (Ok loaded)) earlier borne told = absurd told
ends_front objects (streams job) before now (load (Ok loaded)) earlier borne told = absurd told
ends_front objects (reads job) before now (load (Ok loaded)) earlier borne told = absurd told
ends_front objects (checkpoints job) before now (checkpoint end) earlier borne told = told.known objects earlier borne
ends_front objects (creates job) before now (checkpoint end) earlier borne told = absurd told
ends_front objects (loads job) before now (checkpoint end) earlier borne told = absurd told
ends_front objects (streams job) before now (checkpoint end) earlier borne told = absurd told
ends_front objects (reads job) before now (checkpoint end) earlier borne told = absurd told
ends_front objects (streams job) before now (stream end) earlier borne told = told.known objects earlier borne
ends_front objects (creates job) before now (stream end) earlier borne told = absurd told
ends_front objects (loads job) before now (stream end) earlier borne told = absurd told
ends_front objects (checkpoints job) before now (stream end) earlier borne told = absurd told
ends_front objects (reads job) before now (stream end) earlier borne told = absurd told

-- what is told hands back what is so, where an outcome is told
abbrev IsFrontTold : Objects → Option (Job × Outcome) → Type 0
IsFrontTold objects None = Unit {0}
IsFrontTold objects (Some one) = KnowsFront objects one.1

front_told : (w : World) (event : Event) (told : Option (Job × Outcome)) (later : World) → Happens w event told later → BearsActors w → IsFrontTold later.objects told
front_told w event told later (begins name job begun before can same borne) all = tt
front_told w event told later (dies name) all = tt
front_told w event told later (acts name how actor call has is) all = tt
front_told w event told later (goes_on made name actor now call taken does of_bytes) all = tt
front_told w event told later (ends made name actor now outcome taken does) all =
    let so = taken_borne w event name actor now all taken in
    ends_front w.objects actor.begun actor.before now outcome so.0.earlier so.1 does.0
front_told w event told later (lands place put is) all = tt
front_told w event told later (nothing_happens made unfit) all = tt

-- What a session tells at its end hands back what is so of the log that stands.
pub told_front : (w : World) (event : Event) (job : Job) (outcome : Outcome) (later : World) → Happens w event (Some (job, outcome)) later → BearsActors w → KnowsFront later.objects outcome
told_front w event job outcome later happens all = front_told w event (Some (job, outcome)) later happens all
