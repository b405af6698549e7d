-- Where an actor's session goes, as what happens in a world.
use Rattle.std.proofs.Common.{◌≡◌, ℕ, [], ◌∷◌, ◌++◌, Bool, true, false, Option, Some, None, Ok, Err, option_map, refl, sym, ◌∙◌, ap, subst, inl, inr}
use Rattle.store_core.specs.Calls.{Flight}
use Rattle.store_core.specs.Objects.{Objects}
use Rattle.session_core.specs.Sessions.{hears_lost}
use Rattle.session_core.specs.Talks as talks
use Rattle.session_core.specs.Talks.{Asked, Talk, Told, asked_view, heard, told_lost, told_view}
use Rattle.session_core.specs.declared.asking.Reply.{Reply}
use Rattle.session_core.specs.declared.asking.Reply.TheVariants as replies
use Rattle.table_jobs.specs.Jobs.{Asks, Ends, Job, Outcome}
use Rattle.stream_model.specs.Moves.{Does, asks, ends_lost, tells}
use Rattle.stream_model.specs.Events.{Event, FitsWorld, HasActor, ComesToTalk, act, answer, begin, begins_now, die, ends, goes_on, land, lose_answer, loses, nothing_happens, takes}
use Rattle.stream_model.specs.Worlds.{Actor, Hand, How, World, asking, ended, fresh, waiting, with_actor}
use Rattle.stream_model.specs.Worlds as worlds
use Rattle.stream_world.specs.Acting.{AsksNext, GoesOnAs, HasNext, TellsNext}
use Rattle.stream_world.specs.EventViews.{IsMetAs, IsMetIn, ran_out_of}
use Rattle.table_jobs.specs.Sessions.{SessionFits, job_of, end_view}
use Rattle.stream_world.specs.Standing.{ActorStands, ActsAs, Becomes, HandStands, HasEnded, SlotStands, call_of, taking}
use Rattle.stream_world.specs.declared.actor.Actor as code
use Rattle.stream_world.specs.declared.actor.Hand as code_hand
use Rattle.stream_world.specs.declared.actor.Hand.TheVariants as hands
use Rattle.table_jobs.specs.declared.job_session.JobEnd as code_end
use Rattle.table_jobs.specs.declared.job_session.JobSession.{JobSession}
use Rattle.stream_world.proofs.Places.{actor_other, actor_there}

-- ---- events

met_in : (how : How) → IsMetIn how how
met_in worlds.once = inl refl
met_in worlds.twice = inl refl
met_in worlds.late = inl refl
met_in worlds.lost = refl
met_in worlds.short = inl refl

-- an event is met as it is
pub met_so : (event : Event) → IsMetAs event event
met_so (begin name job) = refl
met_so (die name) = refl
met_so (act name how) = (how, met_in how, refl)
met_so (answer name) = refl
met_so (lose_answer name) = refl
met_so (land place) = refl

-- where an event doesn't fit, nothing happens
pub nothing_became : (w : World) (event : Event) (name : ℕ) (slot : Option code.Actor) → SlotStands slot (w.actors name) → (FitsWorld w event → ⊥) → Becomes w event name None w.objects w.flight slot
nothing_became w event name slot stands unfit = record {
  met = event;
  is = met_so event;
  told = None;
  tells = tt;
  later = w;
  happens = nothing_happens event unfit;
  objects_now = refl;
  flight_now = refl;
  slot_now = stands;
  others = λ other apart. refl;
}

-- an event that is met as it is runs out of no memory
not_out : (how : How) → false ≡ ran_out_of how how
not_out worlds.once = refl
not_out worlds.twice = refl
not_out worlds.late = refl
not_out worlds.lost = refl
not_out worlds.short = refl

-- the same of a call that nobody asks for
pub nothing_acted : (w : World) (name : ℕ) (how : How) (slot : Option code.Actor) → SlotStands slot (w.actors name) → (FitsWorld w (act name how) → ⊥) → ActsAs w name how w.objects w.flight slot false
unfolding nothing_became
nothing_acted w name how slot stands unfit = record { became = nothing_became w (act name how) name slot stands unfit; out_so = not_out how; asked = λ is. absurd cc }

-- the same of objects and puts that a world has, and of a slot that is the one
pub at_store : (w : World) (event : Event) (name : ℕ) (outcome : Option code_end.JobEnd) (objects : Objects) (flight : Flight) (slot now : Option code.Actor) → w.objects ≡ objects → w.flight ≡ flight → now ≡ slot
    → Becomes w event name outcome w.objects w.flight slot → Becomes w event name outcome objects flight now
at_store w event name outcome objects flight slot now same_objects same_flight same_slot became =
    subst (Becomes w event name outcome objects flight) (sym same_slot)
    (subst (λ (f : Flight). Becomes w event name outcome objects f slot) same_flight (subst (λ (o : Objects). Becomes w event name outcome o w.flight slot) same_objects became))

-- an actor with the same session and the same at hand stands for the same
pub stands_alike : (actor later : code.Actor) (found : Option Actor) → later.session ≡ actor.session → later.hand ≡ actor.hand → SlotStands (Some actor) found → SlotStands (Some later) found
stands_alike actor later None session hand stands = absurd stands
stands_alike actor later (Some plain) session hand stands = record {
  job = ap job_of session ∙ stands.job;
  fit = subst (λ (s : JobSession). SessionFits plain.before s plain.talk (call_of plain.hand)) (sym session) stands.fit;
  hand = subst (λ (h : code_hand.Hand). HandStands h plain.talk plain.hand) (sym hand) stands.hand;
}

-- ---- what a session takes

-- the last answer of a longer talk is lost where it is
ends_last : (talk : Talk) (call : Asked) (told : Told) → ends_lost (talk ++ (call, told) ∷ []) ≡ talks.is_lost told
ends_last [] call told = refl
ends_last (one ∷ []) call told = refl
ends_last (one ∷ next ∷ talk) call told = ends_last (next ∷ talk) call told

-- by an event of its own an actor takes what its session is told next
pub record IsTaken (w : World) (event : Event) (name : ℕ) (plain : Actor) (reply : Option Reply) : Type 0 where
  pub now : Talk
  pub taken : ComesToTalk w event name plain now
  pub hears : heard plain.talk (call_of plain.hand) (option_map told_view reply) ≡ now
  pub lost : hears_lost (option_map told_view reply) ≡ ends_lost now

pub taken_next : (w : World) (name : ℕ) (job begun : Job) (before talk : Talk) (p : Hand) (hand : code_hand.Hand) (is_lost : Bool) (reply : Option Reply)
    → HasActor w name (record { job = job; begun = begun; before = before; talk = talk; hand = p }) → HandStands hand talk p → HasNext hand is_lost (Ok reply) → IsTaken w (taking name is_lost) name (record { job = job; begun = begun; before = before; talk = talk; hand = p }) reply
taken_next w name job begun before talk fresh hands.Fresh false reply has stands next =
    let e : reply ≡ None = cc in
    subst (IsTaken w (answer name) name (record { job = job; begun = begun; before = before; talk = talk; hand = fresh })) (sym e) (record { now = []; taken = begins_now name _ has refl; hears = stands; lost = refl })
taken_next w name job begun before talk fresh hands.Fresh true reply has stands next = absurd cc
taken_next w name job begun before talk (asking call) (hands.Asks request) is_lost reply has stands next = absurd cc
taken_next w name job begun before talk (waiting call told) (hands.Waits waits) false reply has stands next =
    let e : reply ≡ Some waits = cc in
    subst (IsTaken w (answer name) name (record { job = job; begun = begun; before = before; talk = talk; hand = waiting call told })) (sym e)
    (record { now = talk ++ (call, told) ∷ []; taken = takes name _ call told has refl; hears = ap (λ (t : Told). talk ++ (call, t) ∷ []) stands; lost = ap talks.is_lost stands ∙ sym (ends_last talk call told) })
taken_next w name job begun before talk (waiting call told) (hands.Waits waits) true reply has stands next =
    let e : reply ≡ Some replies.Lost = cc in
    subst (IsTaken w (lose_answer name) name (record { job = job; begun = begun; before = before; talk = talk; hand = waiting call told })) (sym e)
    (record { now = talk ++ (call, told_lost) ∷ []; taken = loses name _ call told has refl; hears = refl; lost = sym (ends_last talk call told_lost) })
taken_next w name job begun before talk fresh (hands.Asks request) is_lost reply has stands next = absurd stands
taken_next w name job begun before talk fresh (hands.Waits waits) is_lost reply has stands next = absurd stands
taken_next w name job begun before talk (asking call) hands.Fresh is_lost reply has stands next = absurd stands
taken_next w name job begun before talk (asking call) (hands.Waits waits) is_lost reply has stands next = absurd stands
taken_next w name job begun before talk (waiting call told) hands.Fresh is_lost reply has stands next = absurd stands
taken_next w name job begun before talk (waiting call told) (hands.Asks request) is_lost reply has stands next = absurd stands
taken_next w name job begun before talk (ended outcome) hands.Fresh is_lost reply has stands next = absurd stands
taken_next w name job begun before talk (ended outcome) (hands.Asks request) is_lost reply has stands next = absurd stands
taken_next w name job begun before talk (ended outcome) (hands.Waits waits) is_lost reply has stands next = absurd stands

-- ---- where it goes

module _ (w : World) (name : ℕ) (is_lost_now : Bool) (actor : code.Actor) (plain : Actor) (stands : ActorStands actor plain) (reply : Option Reply) (is : IsTaken w (taking name is_lost_now) name plain reply) where
  -- it asks for a call
  asks_on : (later : code.Actor) (hand : code_hand.Hand) → later.hand ≡ hand → job_of later.session ≡ job_of actor.session → AsksNext actor.session reply later.session hand → Becomes w (taking name is_lost_now) name None w.objects w.flight (Some later)
  asks_on later hands.Fresh has same next = absurd next
  asks_on later (hands.Waits waits) has same next = absurd next
  asks_on later (hands.Asks request) has same (goes, lost, bytes) =
      let call : Asked = asked_view request in
      let gone = goes plain.before plain.talk (call_of plain.hand) stands.fit in
      let fits : SessionFits plain.before later.session is.now (Some call) = subst (λ (t : Talk). SessionFits plain.before later.session t (Some call)) is.hears gone.0 in
      let asked : Asks plain.begun plain.before is.now call = subst (λ (j : Job). Asks j plain.before is.now call) stands.job (subst (λ (t : Talk). Asks (job_of actor.session) plain.before t call) is.hears gone.1) in
      let does : Does plain.begun plain.before is.now (asks call) = (asked, sym is.lost ∙ lost) in
      let next : Actor = record plain { talk = is.now; hand = asking call } in
      let there : ActorStands later next = record { job = same ∙ stands.job; fit = fits; hand = subst (λ (h : code_hand.Hand). HandStands h is.now (asking call)) (sym has) refl } in
      record {
        met = taking name is_lost_now;
        is = met_so (taking name is_lost_now);
        told = None;
        tells = tt;
        later = with_actor w name (Some next);
        happens = goes_on (taking name is_lost_now) name plain is.now call is.taken does bytes;
        objects_now = refl;
        flight_now = refl;
        slot_now = subst (SlotStands (Some later)) (sym (actor_there w name (Some next))) there;
        others = actor_other w name (Some next);
      }

  -- it ends
  tells_now : (outcome : code_end.JobEnd) → TellsNext actor.session reply outcome → Becomes w (taking name is_lost_now) name (Some outcome) w.objects w.flight None
  tells_now outcome (goes, lost) =
      let told : Outcome = end_view outcome in
      let ended_so : Ends plain.begun plain.before is.now told = subst (λ (j : Job). Ends j plain.before is.now told) stands.job
      (subst (λ (t : Talk). Ends (job_of actor.session) plain.before t told) is.hears (goes plain.before plain.talk (call_of plain.hand) stands.fit)) in
      let does : Does plain.begun plain.before is.now (tells told) = (ended_so, lost ∙ is.lost) in
      let next : Actor = record plain { talk = is.now; hand = ended told } in
      record {
        met = taking name is_lost_now;
        is = met_so (taking name is_lost_now);
        told = Some (plain.job, told);
        tells = refl;
        later = with_actor w name (Some next);
        happens = ends (taking name is_lost_now) name plain is.now told is.taken does;
        objects_now = refl;
        flight_now = refl;
        slot_now = subst (SlotStands None) (sym (actor_there w name (Some next))) tt;
        others = actor_other w name (Some next);
      }

  gone_on : (outcome : Option code_end.JobEnd) (slot : Option code.Actor) → GoesOnAs actor.session reply outcome slot → Becomes w (taking name is_lost_now) name outcome w.objects w.flight slot
  gone_on None (Some later) (same, next) = asks_on later later.hand refl same next
  gone_on (Some outcome) None next = tells_now outcome next
  gone_on None None next = absurd next
  gone_on (Some outcome) (Some later) next = absurd next

-- A session that was told what it takes has gone on.
pub went_on : (w : World) (name : ℕ) (is_lost_now : Bool) (actor : code.Actor) (reply : Option Reply) (outcome : Option code_end.JobEnd) (slot : Option code.Actor)
    → SlotStands (Some actor) (w.actors name) → HasNext actor.hand is_lost_now (Ok reply) → GoesOnAs actor.session reply outcome slot → Becomes w (taking name is_lost_now) name outcome w.objects w.flight slot
went_on w name is_lost_now actor reply outcome slot stands next goes = by_actor (w.actors name) refl stands
  where
    by_actor : (found : Option Actor) → w.actors name ≡ found → SlotStands (Some actor) found → Becomes w (taking name is_lost_now) name outcome w.objects w.flight slot
    by_actor None has stands_so = absurd stands_so
    by_actor (Some plain) has stands_so =
        gone_on w name is_lost_now actor plain stands_so reply (taken_next w name plain.job plain.begun plain.before plain.talk plain.hand actor.hand is_lost_now reply has stands_so.hand next) outcome slot goes

-- ---- where it stays

same_actor : (one other : Actor) → Some one ≡ Some other → one ≡ other
same_actor one other is = cc

-- an actor that takes an answer has one at hand, or begins
abbrev pub HasAnswer : (is_lost : Bool) → Hand → Type 0
HasAnswer false fresh = Unit {0}
HasAnswer is_lost (waiting call told) = Unit {0}
HasAnswer is_lost hand = ⊥

has_answer : (w : World) (name : ℕ) (plain : Actor) (is_lost_now : Bool) → HasActor w name plain → FitsWorld w (taking name is_lost_now) → HasAnswer is_lost_now plain.hand
has_answer w name plain false has (actor, has_so, inl is) =
    subst (HasAnswer false) (sym (ap (λ (a : Actor). a.hand) (same_actor plain actor (sym has ∙ has_so)) ∙ is)) tt
has_answer w name plain false has (actor, has_so, inr (call, told, is)) =
    subst (HasAnswer false) (sym (ap (λ (a : Actor). a.hand) (same_actor plain actor (sym has ∙ has_so)) ∙ is)) tt
has_answer w name plain true has (actor, call, told, has_so, is) =
    subst (HasAnswer true) (sym (ap (λ (a : Actor). a.hand) (same_actor plain actor (sym has ∙ has_so)) ∙ is)) tt

has_none : (w : World) (name : ℕ) (is_lost_now : Bool) → w.actors name ≡ None → FitsWorld w (taking name is_lost_now) → ⊥
has_none w name false none (actor, has, is) = absurd cc
has_none w name true none (actor, call, told, has, is) = absurd cc

-- a session that is told nothing now takes no answer
takes_none : (is_lost_now : Bool) (hand left : code_hand.Hand) (talk : Talk) (p : Hand) → HandStands hand talk p → HasNext hand is_lost_now (Err left) → HasAnswer is_lost_now p → ⊥
takes_none true hands.Fresh left talk fresh stands next has = has
takes_none false hands.Fresh left talk fresh stands next has = absurd cc
takes_none true (hands.Asks request) left talk (asking call) stands next has = has
takes_none false (hands.Asks request) left talk (asking call) stands next has = has
takes_none true (hands.Waits waits) left talk (waiting call told) stands next has = absurd cc
takes_none false (hands.Waits waits) left talk (waiting call told) stands next has = absurd cc
takes_none is_lost_now hands.Fresh left talk (asking call) stands next has = absurd stands
takes_none is_lost_now hands.Fresh left talk (waiting call told) stands next has = absurd stands
takes_none is_lost_now hands.Fresh left talk (ended outcome) stands next has = absurd stands
takes_none is_lost_now (hands.Asks request) left talk fresh stands next has = absurd stands
takes_none is_lost_now (hands.Asks request) left talk (waiting call told) stands next has = absurd stands
takes_none is_lost_now (hands.Asks request) left talk (ended outcome) stands next has = absurd stands
takes_none is_lost_now (hands.Waits waits) left talk fresh stands next has = absurd stands
takes_none is_lost_now (hands.Waits waits) left talk (asking call) stands next has = absurd stands
takes_none is_lost_now (hands.Waits waits) left talk (ended outcome) stands next has = absurd stands

-- what a session has at hand that is told nothing is what it had
pub left_same : (is_lost_now : Bool) (hand left : code_hand.Hand) → HasNext hand is_lost_now (Err left) → left ≡ hand
left_same true hands.Fresh left next = cc
left_same false hands.Fresh left next = absurd cc
left_same true (hands.Asks request) left next = cc
left_same false (hands.Asks request) left next = cc
left_same true (hands.Waits waits) left next = absurd cc
left_same false (hands.Waits waits) left next = absurd cc

-- an actor stays where it is
pub stayed : (w : World) (name : ℕ) (is_lost_now : Bool) (actor later : code.Actor) (left : code_hand.Hand) → SlotStands (Some actor) (w.actors name) → HasNext actor.hand is_lost_now (Err left)
    → later.session ≡ actor.session → later.hand ≡ actor.hand → Becomes w (taking name is_lost_now) name None w.objects w.flight (Some later)
stayed w name is_lost_now actor later left stands next session hand =
    nothing_became w (taking name is_lost_now) name (Some later) (stands_alike actor later (w.actors name) session hand stands) (by_actor (w.actors name) refl stands)
  where
    by_actor : (found : Option Actor) → w.actors name ≡ found → SlotStands (Some actor) found → FitsWorld w (taking name is_lost_now) → ⊥
    by_actor None has stands_so fits = stands_so
    by_actor (Some plain) has stands_so fits = takes_none is_lost_now actor.hand left plain.talk plain.hand stands_so.hand next (has_answer w name plain is_lost_now has fits)

ended_takes_none : (is_lost_now : Bool) (p : Hand) → HasEnded p → HasAnswer is_lost_now p → ⊥
ended_takes_none false (ended outcome) is has = has
ended_takes_none true (ended outcome) is has = has
ended_takes_none is_lost_now fresh is has = is
ended_takes_none is_lost_now (asking call) is has = is
ended_takes_none is_lost_now (waiting call told) is has = is

-- where nobody acts, nobody takes an answer
pub nobody_took : (w : World) (name : ℕ) (is_lost_now : Bool) → SlotStands None (w.actors name) → Becomes w (taking name is_lost_now) name None w.objects w.flight None
nobody_took w name is_lost_now stands = nothing_became w (taking name is_lost_now) name None stands (by_actor (w.actors name) refl stands)
  where
    by_actor : (found : Option Actor) → w.actors name ≡ found → SlotStands None found → FitsWorld w (taking name is_lost_now) → ⊥
    by_actor None has stands_so fits = has_none w name is_lost_now has fits
    by_actor (Some plain) has stands_so fits = ended_takes_none is_lost_now plain.hand stands_so (has_answer w name plain is_lost_now has fits)
