-- A call of an actor, as what happens in a world.
use Rattle.std.proofs.Common.{◌≡◌, ◌⊎◌, ℕ, Bool, false, Option, Some, None, inl, inr, refl, sym, ◌∙◌, ap, subst}
use Rattle.store_core.specs.Calls.{Flight}
use Rattle.store_core.specs.Objects.{Objects}
use Rattle.session_core.specs.Talks.{Asked, Talk, asked_view, get_object, list_names, put_commit, put_file, told_view}
use Rattle.session_core.specs.declared.asking.Reply.{Reply}
use Rattle.session_core.specs.declared.asking.Request.{Request}
use Rattle.table_jobs.specs.Jobs.{Job}
use Rattle.stream_model.specs.Events.{Event, FitsWorld, HasActor, act, acts}
use Rattle.session_core.specs.CallEffects.{left_by_call, told_by_call}
use Rattle.stream_model.specs.Worlds.{Actor, Hand, How, World, acted, asking, ended, flight_how, fresh, late, left_how, lost, once, short, told_how, twice, waiting}
use Rattle.stream_world.specs.Calling.{is_told_out}
use Rattle.stream_world.specs.EventViews.{IsMetIn, ran_out, ran_out_of}
use Rattle.table_jobs.specs.Sessions.{SessionFits, job_of}
use Rattle.stream_world.specs.Standing.{ActorStands, ActsAs, Becomes, HandStands, HasEnded, CallMeets, SlotStands}
use Rattle.stream_world.specs.declared.actor.Actor as code
use Rattle.stream_world.specs.declared.actor.Hand as code_hand
use Rattle.stream_world.specs.declared.actor.Hand.TheVariants as hands
use Rattle.stream_world.proofs.Places.{actor_other, actor_there}
use Rattle.stream_world.proofs.Steps.{nothing_acted, stands_alike}

-- what became of it, where the call was met so
abbrev Acts : World → ℕ → How → Objects → Flight → Option code.Actor → (met : How) → Type 0
Acts w name how objects flight slot met = (became : Becomes w (act name how) name None objects flight slot) × (became.met ≡ act name met) × FitsWorld w (act name how)

-- an actor asks for a call
asks_so : (w : World) (name : ℕ) (job begun : Job) (before talk : Talk) (p : Hand) (how : How) (actor later : code.Actor) (request : Request) (reply : Reply) (objects : Objects) (flight : Flight)
    → HasActor w name (record { job = job; begun = begun; before = before; talk = talk; hand = p }) → ActorStands actor (record { job = job; begun = begun; before = before; talk = talk; hand = p }) → HandStands (hands.Asks request) talk p
    → (meets : CallMeets how (asked_view request) (told_view reply) w.objects w.flight objects flight) → later.session ≡ actor.session → later.hand ≡ hands.Waits reply
    → Acts w name how objects flight (Some later) meets.met
asks_so w name job begun before talk (asking call) how actor later request reply objects flight has stands same meets session hand =
    let plain : Actor = record { job = job; begun = begun; before = before; talk = talk; hand = asking call } in
    let met : How = meets.met in
    let next : Actor = record { job = job; begun = begun; before = before; talk = talk; hand = waiting call (told_how met w.objects call) } in
    let there : ActorStands later next = record {
      job = ap job_of session ∙ stands.job;
      fit = subst (λ s. SessionFits before s talk (Some call)) (sym session) stands.fit;
      hand = subst (λ (h : code_hand.Hand). HandStands h talk (waiting call (told_how met w.objects call))) (sym hand) (meets.told_so ∙ ap (told_how met w.objects) same);
    } in (
      record {
        met = act name met;
        is = (met, meets.is, refl);
        told = None;
        tells = tt;
        later = acted w name plain call met;
        happens = acts name met plain call has refl;
        objects_now = sym (meets.left ∙ ap (left_how met w.objects) same);
        flight_now = sym (meets.in_flight ∙ ap (flight_how met w.flight) same);
        slot_now = subst (SlotStands (Some later)) (sym (actor_there w name (Some next))) there;
        others = actor_other w name (Some next);
      },
      refl,
      (plain, call, has, refl),
    )
asks_so w name job begun before talk fresh how actor later request reply objects flight has stands same meets session hand = absurd same
asks_so w name job begun before talk (waiting call told) how actor later request reply objects flight has stands same meets session hand = absurd same
asks_so w name job begun before talk (ended outcome) how actor later request reply objects flight has stands same meets session hand = absurd same

-- A call that an actor asks for is answered.
acted_on : (w : World) (name : ℕ) (how : How) (actor later : code.Actor) (request : Request) (reply : Reply) (objects : Objects) (flight : Flight)
    → SlotStands (Some actor) (w.actors name) → actor.hand ≡ hands.Asks request → (meets : CallMeets how (asked_view request) (told_view reply) w.objects w.flight objects flight)
    → later.session ≡ actor.session → later.hand ≡ hands.Waits reply → Acts w name how objects flight (Some later) meets.met
acted_on w name how actor later request reply objects flight stands asks meets session hand = by_actor (w.actors name) refl stands
  where
    by_actor : (found : Option Actor) → w.actors name ≡ found → SlotStands (Some actor) found → Acts w name how objects flight (Some later) meets.met
    by_actor None has stands_so = absurd stands_so
    by_actor (Some plain) has stands_so =
        asks_so w name plain.job plain.begun plain.before plain.talk plain.hand how actor later request reply objects flight has stands_so (subst (λ (h : code_hand.Hand). HandStands h plain.talk plain.hand) asks stands_so.hand) meets session hand

-- ---- whether memory ran out in it

-- a call that takes effect isn't told that memory ran out
effect_told : (objects : Objects) (call : Asked) → is_told_out once (told_by_call objects call) ≡ false
effect_told objects list_names = refl
effect_told objects (get_object name) = refl
effect_told objects (put_file name bytes) = refl
effect_told objects (put_commit version bytes) = refl

effect_told_twice : (objects : Objects) (call : Asked) → is_told_out twice (told_by_call objects call) ≡ false
effect_told_twice objects list_names = refl
effect_told_twice objects (get_object name) = refl
effect_told_twice objects (put_file name bytes) = refl
effect_told_twice objects (put_commit version bytes) = refl

-- it is met as it was to be, or memory ran out
either_met : (how met : How) → IsMetIn how met → (met ≡ how) ⊎ (met ≡ short)
either_met once met is = is
either_met twice met is = is
either_met late met is = is
either_met lost met is = inl is
either_met short met is = is

met_told : (how : How) (objects : Objects) (call : Asked) → is_told_out how (told_how how objects call) ≡ ran_out_of how how
met_told once objects call = effect_told objects call
met_told twice objects call = effect_told_twice (left_by_call objects call) call
met_told late objects call = refl
met_told lost objects call = refl
met_told short objects call = refl

short_told : (how : How) (objects : Objects) (call : Asked) → is_told_out how (told_how short objects call) ≡ ran_out_of how short
short_told once objects call = refl
short_told twice objects call = refl
short_told late objects call = refl
short_told lost objects call = refl
short_told short objects call = refl

-- that memory ran out is told just where it did, and wasn't to
told_out : (how met : How) → IsMetIn how met → (objects : Objects) (call : Asked) → is_told_out how (told_how met objects call) ≡ ran_out_of how met
told_out how met is objects call = by_met (either_met how met is)
  where
    by_met : (met ≡ how) ⊎ (met ≡ short) → is_told_out how (told_how met objects call) ≡ ran_out_of how met
    by_met (inl same) = subst (λ (m : How). is_told_out how (told_how m objects call) ≡ ran_out_of how m) (sym same) (met_told how objects call)
    by_met (inr same) = subst (λ (m : How). is_told_out how (told_how m objects call) ≡ ran_out_of how m) (sym same) (short_told how objects call)

-- A call that an actor asks for is answered, and whether memory ran out in it is told.
pub acted_as : (w : World) (name : ℕ) (how : How) (actor later : code.Actor) (request : Request) (reply : Reply) (objects : Objects) (flight : Flight) (out : Bool)
    → SlotStands (Some actor) (w.actors name) → actor.hand ≡ hands.Asks request → CallMeets how (asked_view request) (told_view reply) w.objects w.flight objects flight
    → later.session ≡ actor.session → later.hand ≡ hands.Waits reply → out ≡ is_told_out how (told_view reply) → ActsAs w name how objects flight (Some later) out
acted_as w name how actor later request reply objects flight out stands asks meets session hand out_is =
    let became = acted_on w name how actor later request reply objects flight stands asks meets session hand in
    record { became = became.0; out_so = out_is ∙ (ap (is_told_out how) meets.told_so ∙ (told_out how meets.met meets.is w.objects (asked_view request) ∙ ap (λ (e : Event). ran_out (act name how) e) (sym became.1))); asked = λ is. became.2 }

-- ---- where no call is asked for

same_actor : (one other : Actor) → Some one ≡ Some other → one ≡ other
same_actor one other is = cc

fits_asking : (w : World) (name : ℕ) (how : How) (plain : Actor) → HasActor w name plain → FitsWorld w (act name how) → (call : Asked) × (plain.hand ≡ asking call)
fits_asking w name how plain has (actor, call, has_so, is) = (call, ap (λ (a : Actor). a.hand) (same_actor plain actor (sym has ∙ has_so)) ∙ is)

nobody_fits : (w : World) (name : ℕ) (how : How) → w.actors name ≡ None → FitsWorld w (act name how) → ⊥
nobody_fits w name how none (actor, call, has, is) = absurd cc

-- it has asked for nothing yet, or an answer waits
abbrev pub AsksNothing : code_hand.Hand → Type 0
AsksNothing (hands.Asks request) = ⊥
AsksNothing hand = Unit {0}

asks_nothing : (hand : code_hand.Hand) (talk : Talk) (p : Hand) → HandStands hand talk p → AsksNothing hand → (call : Asked) → p ≡ asking call → ⊥
asks_nothing hands.Fresh talk fresh stands none call is = absurd cc
asks_nothing (hands.Asks request) talk p stands none call is = none
asks_nothing (hands.Waits reply) talk (waiting asked told) stands none call is = absurd cc
asks_nothing hand talk p stands none call is = absurd stands

ended_asks_nothing : (p : Hand) → HasEnded p → (call : Asked) → p ≡ asking call → ⊥
ended_asks_nothing (ended outcome) is call same = absurd cc
ended_asks_nothing fresh is call same = is
ended_asks_nothing (asking asked) is call same = is
ended_asks_nothing (waiting asked told) is call same = is

-- Where an actor asks for nothing, its call can't be answered.
pub not_acted : (w : World) (name : ℕ) (how : How) (actor later : code.Actor) → SlotStands (Some actor) (w.actors name) → AsksNothing actor.hand → later.session ≡ actor.session → later.hand ≡ actor.hand
    → ActsAs w name how w.objects w.flight (Some later) false
not_acted w name how actor later stands none session hand =
    nothing_acted w name how (Some later) (stands_alike actor later (w.actors name) session hand stands) (by_actor (w.actors name) refl stands)
  where
    by_actor : (found : Option Actor) → w.actors name ≡ found → SlotStands (Some actor) found → FitsWorld w (act name how) → ⊥
    by_actor None has stands_so fits = stands_so
    by_actor (Some plain) has stands_so fits = let at = fits_asking w name how plain has fits in asks_nothing actor.hand plain.talk plain.hand stands_so.hand none at.0 at.1

-- Nor where nobody acts.
pub nobody_acted : (w : World) (name : ℕ) (how : How) → SlotStands None (w.actors name) → ActsAs w name how w.objects w.flight None false
nobody_acted w name how stands = nothing_acted w name how None stands (by_actor (w.actors name) refl stands)
  where
    by_actor : (found : Option Actor) → w.actors name ≡ found → SlotStands None found → FitsWorld w (act name how) → ⊥
    by_actor None has stands_so fits = nobody_fits w name how has fits
    by_actor (Some plain) has stands_so fits = let at = fits_asking w name how plain has fits in ended_asks_nothing plain.hand stands_so at.0 at.1

-- The same of objects and puts that a world has, and of a slot that is the one.
pub acts_at_store : (w : World) (name : ℕ) (how : How) (objects : Objects) (flight : Flight) (slot now : Option code.Actor) (out : Bool) → w.objects ≡ objects → w.flight ≡ flight → now ≡ slot
    → ActsAs w name how w.objects w.flight slot out → ActsAs w name how objects flight now out
acts_at_store w name how objects flight slot now out same_objects same_flight same_slot done =
    subst (λ (s : Option code.Actor). ActsAs w name how objects flight s out) (sym same_slot)
    (subst (λ (f : Flight). ActsAs w name how objects f slot out) same_flight (subst (λ (o : Objects). ActsAs w name how o w.flight slot out) same_objects done))
