-- What an event of the code is in a world.
use Rattle.std.proofs.Common.{◌≡◌, ◌≤◌, map, ◌<◌, ◌⊎◌, ◌||◌, Bool, true, false, ℕ, List, [], length, slice_get, get_or, Option, Some, None, Result, Ok, Err, option_and_then, option_map, IfOk, refl, sym, ◌∙◌, ap, subst, inl, inr}
use Rattle.std.proofs.lemmas.Bool.{cases_eq}
use Rattle.std.proofs.lemmas.Option.{slice_get_cases}
use Rattle.std.specs.BTreeMap.{BTreeMap, IsUnchanged, UpdatesBy, get, is_at}
use Rattle.std.specs.Map.{lookup}
use Rattle.std.specs.Ordering.{nat_cmp}
use Rattle.store_core.specs.Calls.{Flight, put_told}
use Rattle.store_core.specs.Objects.{HasObjectsOf, Objects, object_at, with_object}
use Rattle.store_core.specs.Turns.{HasLandedAs, puts_sent}
use Rattle.store_core.specs.declared.fault.StoreFault.{StoreFault}
use Rattle.store_core.specs.declared.fault.StoreFault.TheVariants.{Lost, Memory}
use Rattle.store_core.specs.declared.store.Put.{Put}
use Rattle.store_core.specs.declared.store.Put.TheVariants.{Created, Exists}
use Rattle.session_core.specs.Talks.{Bears, Talk}
use Rattle.std.specs.Prelude.{OnOk}
use Rattle.log_reading.specs.Logs.{version_of}
use Rattle.log_reading.specs.declared.log.Standing.{Standing}
use Rattle.log_reading.specs.declared.log_cache.LogCache.{LogCache}
use Rattle.table_log.specs.Loads.{IsFront}
use Rattle.table_log.specs.declared.loading.Loaded.{Loaded}
use Rattle.table_log.proofs.Callers.{front_grown}
use Rattle.table_jobs.specs.Jobs.{CanBegin, Job, Outcome, checkpoints, creates, loads, reads, streams}
use Rattle.table_jobs.specs.Views.{known_load, with_known}
use Rattle.stream_model.specs.Events.{Event, FitsWorld, Happens, act, answer, begin, lose_answer, begins, die, dies, land, lands, nothing_happens}
use Rattle.stream_model.specs.Worlds.{Actor, BearsActors, IsBegunAs, KnowsFront, World, fresh, with_actor}
use Rattle.stream_model.proofs.Callers.{bears_happens, event_grew, told_front}
use Rattle.table_jobs.specs.Sessions.{SessionFits, end_view, job_of}
use Rattle.stream_world.specs.EventViews.{ran_out}
use Rattle.std.specs.declared.alloc.AllocError.{AllocError}
use Rattle.stream_world.specs.Standing.{ActorStands, Becomes, BeginsAnew, BeginsAs, HasBegunAs, PlacesAs, HandStands, HandsBackFront, HasHappened, LandsAs, SlotStands, TellsAs, WorldStands, landing_out, landing_told, slot_at, taking, told_wants}
use Rattle.stream_world.specs.declared.actor.Actor as code
use Rattle.stream_world.specs.declared.actor.Hand as code_hand
use Rattle.stream_world.specs.declared.actor.Hand.TheVariants as hands
use Rattle.table_jobs.specs.declared.job_session.JobEnd as code_end
use Rattle.stream_world.specs.declared.world.World as code_world
use Rattle.stream_world.proofs.Places.{actor_other, actor_there, apart, kept, place_stands}

-- what is kept, where the place of a number was found
pub kept_there : (m : BTreeMap ℕ (Option code.Actor)) (name : ℕ) (slot : Option code.Actor) → get nat_cmp m name ≡ Some slot → kept m name ≡ slot
kept_there m name slot found = ap (option_and_then (λ s. s)) found

pub kept_nowhere : (m : BTreeMap ℕ (Option code.Actor)) (name : ℕ) → get nat_cmp m name ≡ None → kept m name ≡ None
kept_nowhere m name found = ap (option_and_then (λ s. s)) found

-- what goes on runs out of no memory by that
pub never_out : (name : ℕ) (is_lost : Bool) (met : Event) → ran_out (taking name is_lost) met ≡ false
never_out name true met = refl
never_out name false met = refl

pub going_on_fits : (w : World) (name : ℕ) (is_lost : Bool) (met : Event) → ran_out (taking name is_lost) met ≡ true → FitsWorld w (taking name is_lost)
going_on_fits w name is_lost met is = let wrong : false ≡ true = sym (never_out name is_lost met) ∙ is in absurd cc

-- what is so stays so where something else may be so besides
pub either_still : (one was now : Bool) → now ≡ (one || was) → was ≡ true → now ≡ true
either_still true was now is short = is
either_still false was now is short = is ∙ short

-- what a put is told in a world
abbrev told_in : World → List ℕ × List ℕ → Put
told_in w put = put_told (object_at w.objects put.0)

-- ---- what is borne, and known

-- an event by which nobody begins
abbrev pub BeginsNobody : Event → Type 0
BeginsNobody (begin name job) = ⊥
BeginsNobody event = Unit {0}

not_begun : (event : Event) (later : World) → BeginsNobody event → BeginsAnew event later
not_begun (begin name job) later none = absurd none
not_begun (die name) later none = tt
not_begun (act name how) later none = tt
not_begun (answer name) later none = tt
not_begun (lose_answer name) later none = tt
not_begun (land place) later none = tt

pub taking_nobody : (name : ℕ) (is_lost : Bool) → BeginsNobody (taking name is_lost)
taking_nobody name true = tt
taking_nobody name false = tt

-- by an event the store has grown
grown_by : (w : World) (met : Event) (told : Option (Job × Outcome)) (later : World) → Happens w met told later → (stood now : Objects) → w.objects ≡ stood → later.objects ≡ now → HasObjectsOf stood now
grown_by w met told later happens stood now was is = subst (λ (o : Objects). HasObjectsOf stood o) is (subst (λ (o : Objects). HasObjectsOf o later.objects) was (event_grew w met told later happens))

-- what is known of the log stays so of a store that grows
known_lasts : (stood now : Objects) (known later : Loaded) → HasObjectsOf stood now → later ≡ known → IsFront stood known → IsFront now later
known_lasts stood now known later grown same so = front_grown stood now grown later (subst (IsFront stood) (sym same) so)

-- what is told hands back of the log what is so
hands_back : (w : World) (met : Event) (told : Option (Job × Outcome)) (later : World) (outcome : Option code_end.JobEnd) (now : Objects) → TellsAs outcome told → Happens w met told later → later.objects ≡ now → BearsActors w → HandsBackFront now outcome
hands_back w met None later None now tells happens is borne = tt
hands_back w met (Some told) later None now tells happens is borne = absurd tells
hands_back w met None later (Some outcome) now tells happens is borne = absurd tells
hands_back w met (Some told) later (Some outcome) now tells happens is borne =
    subst (λ (o : Objects). KnowsFront o (end_view outcome)) is (subst (KnowsFront later.objects) tells (told_front w met told.0 told.1 later happens borne))

-- a world of the code of which more or less is known stands for the same
pub knows_other : {S : Type 0} (objects : S → Objects) (old new : code_world.World S) (w : World) → WorldStands objects old w → new.store ≡ old.store → new.actors ≡ old.actors → IsFront (objects old.store.store) new.known → WorldStands objects new w
knows_other objects old new w stands store actors known = record {
  objects = stands.objects ∙ ap (λ s. objects s.store) (sym store);
  flight = stands.flight ∙ ap puts_sent (sym store);
  actors = λ name. subst (λ (m : BTreeMap ℕ (Option code.Actor)). SlotStands (kept m name) (w.actors name)) (sym actors) (stands.actors name);
  borne = stands.borne;
  known = subst (λ s. IsFront (objects s.store) new.known) (sym store) known;
}

-- who has begun a job with nothing known has begun it anew
pub begun_anew : {S : Type 0} (objects : S → Objects) (was_short : Bool) (w : World) (name : ℕ) (job : Job) (world : code_world.World S) → HasBegunAs objects was_short w name job job [] world → HasHappened objects was_short w (begin name job) None world
begun_anew objects was_short w name job world begun_so = record {
  met = begin name job;
  is = refl;
  told = None;
  tells = tt;
  later = begun_so.later;
  happens = begun_so.happens;
  stands = begun_so.stands;
  begins = begun_so.there;
  hands = tt;
  short = begun_so.short;
  fits = λ is. absurd cc;
}

pub began_anew : {S : Type 0} (objects : S → Objects) (was_short : Bool) (w : World) (name : ℕ) (job : Job) (result : Result (Unit {0}) AllocError) (world : code_world.World S) → PlacesAs objects was_short w name job job [] result world
    → BeginsAs objects was_short w (begin name job) result world
began_anew objects was_short w name job (Ok done) world so = begun_anew objects was_short w name job world so
began_anew objects was_short w name job (Err fault) world so = so

-- a job is itself begun with nothing known
pub itself : (job : Job) → IsBegunAs job job
itself (creates job) = refl
itself (loads job) = (job, refl, refl)
itself (checkpoints job) = (job, refl, refl)
itself (streams job) = (job.load, refl, refl)
itself (reads job) = (job.known, refl)

-- what begins with as much known begins the same
pub known_alike : (one two : LogCache) (job : Job) → one.loaded ≡ two.loaded → one.log.standing.items ≡ two.log.standing.items → with_known one job ≡ with_known two job
known_alike one two (creates job) loaded standing = refl
known_alike one two (loads job) loaded standing = ap (λ (known : Loaded). loads (known_load known job)) loaded
known_alike one two (checkpoints job) loaded standing = ap (λ (known : Loaded). checkpoints (known_load known job)) loaded
known_alike one two (streams job) loaded standing = ap (λ (known : Loaded). streams (record job { load = known_load known job.load })) loaded
known_alike one two (reads job) loaded standing = ap (λ (items : List Standing). reads (record job { known = map version_of items })) standing

-- where all is well, what follows of it is so
pub on_ok : (r : Result (Unit {0}) AllocError) (P Q : Type 0) → OnOk r P → (P → Q) → OnOk r Q
on_ok (Ok done) P Q so follows = follows so
on_ok (Err fault) P Q so follows = tt

-- a job of the code begins with what is known of the log
pub begun_as : (cache : LogCache) (job : Job) → IsBegunAs job (with_known cache job)
begun_as cache (creates job) = refl
begun_as cache (loads job) = (known_load cache.loaded job, refl, refl)
begun_as cache (checkpoints job) = (known_load cache.loaded job, refl, refl)
begun_as cache (streams job) = (known_load cache.loaded job.load, refl, refl)
begun_as cache (reads job) = (map version_of cache.log.standing.items, refl)

module _ {S : Type 0} (objects : S → Objects) (old new : code_world.World S) (w : World) (stands : WorldStands objects old w) where
  -- the store stayed, and what is known of its log
  same_known : new.store ≡ old.store → new.known ≡ old.known → IsFront (objects new.store.store) new.known
  same_known store known = subst (λ s. IsFront (objects s.store) new.known) (sym store) (subst (IsFront (objects old.store.store)) (sym known) stands.known)

  -- What became of a world by an event of one actor is what happened, where its place was written.
  pub wrote : (event : Event) (name : ℕ) (outcome : Option code_end.JobEnd) (slot : Option code.Actor) → UpdatesBy nat_cmp (nat_cmp name) old.actors new.actors (Some slot)
      → new.known ≡ old.known → BeginsNobody event → (became : Becomes w event name outcome (objects new.store.store) (puts_sent new.store) slot) → new.is_short ≡ (ran_out event became.met || (told_wants outcome || old.is_short))
      → (ran_out event became.met ≡ true → FitsWorld w event) → HasHappened objects old.is_short w event outcome new
  wrote event name outcome slot updates known others became short fits = record {
    begins = not_begun event became.later others;
    hands = hands_back w became.met became.told became.later outcome (objects new.store.store) became.tells became.happens became.objects_now stands.borne;
    short = short;
    fits = fits;
    met = became.met;
    is = became.is;
    told = became.told;
    tells = became.tells;
    later = became.later;
    happens = became.happens;
    stands = record {
      objects = became.objects_now;
      flight = became.flight_now;
      actors = place_stands old.actors new.actors name slot w.actors became.later.actors updates stands.actors became.slot_now became.others;
      borne = bears_happens w became.met became.told became.later became.happens stands.borne;
      known =
          known_lasts (objects old.store.store) (objects new.store.store) old.known new.known (grown_by w became.met became.told became.later became.happens (objects old.store.store) (objects new.store.store) stands.objects became.objects_now) known
          stands.known;
    };
  }

  -- The same where no place was written.
  pub unwritten : (event : Event) (name : ℕ) (outcome : Option code_end.JobEnd) → get nat_cmp old.actors name ≡ None → new.store ≡ old.store → new.actors ≡ old.actors → new.known ≡ old.known → BeginsNobody event
      → (became : Becomes w event name outcome w.objects w.flight None) → new.is_short ≡ (ran_out event became.met || (told_wants outcome || old.is_short)) → (ran_out event became.met ≡ true → FitsWorld w event)
      → HasHappened objects old.is_short w event outcome new
  unwritten event name outcome nowhere store actors known others became short fits = record {
    begins = not_begun event became.later others;
    hands = hands_back w became.met became.told became.later outcome (objects new.store.store) became.tells became.happens objects_now stands.borne;
    short = short;
    fits = fits;
    met = became.met;
    is = became.is;
    told = became.told;
    tells = became.tells;
    later = became.later;
    happens = became.happens;
    stands = record {
      objects = objects_now;
      borne = bears_happens w became.met became.told became.later became.happens stands.borne;
      known = same_known store known;
      flight = became.flight_now ∙ (stands.flight ∙ ap puts_sent (sym store));
      actors = λ other. subst (λ (m : BTreeMap ℕ (Option code.Actor)). SlotStands (kept m other) (became.later.actors other)) (sym actors)
          (still became.later.actors (subst (λ s. SlotStands s (became.later.actors name)) (sym (kept_nowhere old.actors name nowhere)) became.slot_now) became.others other);
    };
  }
    where
      objects_now : became.later.objects ≡ objects new.store.store
      objects_now = became.objects_now ∙ (stands.objects ∙ ap (λ s. objects s.store) (sym store))

      still : (later : ℕ → Option Actor) → SlotStands (slot_at old name) (later name) → ((other : ℕ) → (other ≡ name → ⊥) → later other ≡ w.actors other) → (other : ℕ) → SlotStands (slot_at old other) (later other)
      still later there others other = by_cases (cases_eq other name)
        where
          by_cases : (other ≡ name) ⊎ (other ≡ name → ⊥) → SlotStands (slot_at old other) (later other)
          by_cases (inl is) = subst (λ (k : ℕ). SlotStands (slot_at old k) (later k)) (sym is) there
          by_cases (inr apart) = subst (SlotStands (slot_at old other)) (sym (others other apart)) (stands.actors other)

  -- An actor has begun, maybe with something known of the log.
  pub begun : (name : ℕ) (job started : Job) (before : Talk) (actor : code.Actor) → new.store ≡ old.store → UpdatesBy nat_cmp (nat_cmp name) old.actors new.actors (Some (Some actor)) → new.known ≡ old.known → CanBegin job → IsBegunAs job started
      → Bears w.objects before → job_of actor.session ≡ started → SessionFits before actor.session [] None → actor.hand ≡ hands.Fresh → new.is_short ≡ old.is_short → HasBegunAs objects old.is_short w name job started before new
  begun name job started before actor store updates known can is_so borne same fits hand short =
      let plain : Actor = record { job = job; begun = started; before = before; talk = []; hand = fresh } in
      let there : ActorStands actor plain = record { job = same; fit = fits; hand = subst (λ (h : code_hand.Hand). HandStands h [] fresh) (sym hand) refl } in
      record {
        later = with_actor w name (Some plain);
        happens = begins name job started before can is_so borne;
        there = actor_there w name (Some plain);
        short = short;
        stands = record {
          objects = stands.objects ∙ ap (λ s. objects s.store) (sym store);
          flight = stands.flight ∙ ap puts_sent (sym store);
          borne = bears_happens w (begin name job) None (with_actor w name (Some plain)) (begins name job started before can is_so borne) stands.borne;
          known = same_known store known;
          actors = place_stands old.actors new.actors name (Some actor) w.actors (with_actor w name (Some plain)).actors updates stands.actors (subst (SlotStands (Some actor)) (sym (actor_there w name (Some plain))) there) (actor_other w name (Some plain));
        };
      }

  -- Where its place couldn't be made, nothing has happened.
  pub unbegun : new.store ≡ old.store → IsUnchanged old.actors new.actors → new.known ≡ old.known → WorldStands objects new w
  unbegun store same known = record {
    borne = stands.borne;
    known = same_known store known;
    objects = stands.objects ∙ ap (λ s. objects s.store) (sym store);
    flight = stands.flight ∙ ap puts_sent (sym store);
    actors = λ name. subst (λ s. SlotStands s (w.actors name)) (ap (λ es. option_and_then (λ s. s) (lookup (is_at (nat_cmp name)) es)) (sym same)) (stands.actors name);
  }

  -- An actor is gone, which had a place or none.
  pub gone : (name : ℕ) → new.store ≡ old.store → UpdatesBy nat_cmp (nat_cmp name) old.actors new.actors (Some None) → new.known ≡ old.known → new.is_short ≡ old.is_short → HasHappened objects old.is_short w (die name) None new
  gone name store updates known short = record {
    begins = tt;
    hands = tt;
    short = short;
    fits = λ is. absurd cc;
    met = die name;
    is = refl;
    told = None;
    tells = tt;
    later = with_actor w name None;
    happens = dies name;
    stands = record {
      objects = stands.objects ∙ ap (λ s. objects s.store) (sym store);
      flight = stands.flight ∙ ap puts_sent (sym store);
      borne = bears_happens w (die name) None (with_actor w name None) (dies name) stands.borne;
      known = same_known store known;
      actors = place_stands old.actors new.actors name None w.actors (with_actor w name None).actors updates stands.actors (subst (SlotStands None) (sym (actor_there w name None)) tt) (actor_other w name None);
    };
  }

  pub was_gone : (name : ℕ) → get nat_cmp old.actors name ≡ None → new.store ≡ old.store → new.actors ≡ old.actors → new.known ≡ old.known → new.is_short ≡ old.is_short → HasHappened objects old.is_short w (die name) None new
  was_gone name nowhere store actors known short = unwritten (die name) name None nowhere store actors known tt became short (λ is. absurd cc)
    where
      became : Becomes w (die name) name None w.objects w.flight None
      became = record {
        met = die name;
        is = refl;
        told = None;
        tells = tt;
        later = with_actor w name None;
        happens = dies name;
        objects_now = refl;
        flight_now = refl;
        slot_now = subst (SlotStands None) (sym (actor_there w name None)) tt;
        others = actor_other w name None;
      }

  -- A put in flight has taken effect, or there is none of that number.
  pub landed_as : (in_flight : S → Flight) (place : ℕ) (result : Result (Option Put) StoreFault) → new.actors ≡ old.actors → new.known ≡ old.known
      → (length (puts_sent old.store) ≤ place → (result ≡ Ok None) × (new.store ≡ old.store))
      → ((name bytes : List ℕ) → slice_get (puts_sent old.store) place ≡ Some (name, bytes) → HasLandedAs name bytes result (objects old.store.store, in_flight old.store.store) (objects new.store.store, in_flight new.store.store))
      → ((name bytes : List ℕ) → slice_get (puts_sent old.store) place ≡ Some (name, bytes) → IfOk result (λ told. told ≡ Some (put_told (object_at (objects old.store.store) name))))
      → (result ≡ Err Lost → ⊥) → puts_sent new.store ≡ puts_sent old.store → new.is_short ≡ (landing_out result || old.is_short) → LandsAs objects old.is_short w place result new
  landed_as in_flight place result actors known nothing landed told never sent short = by_place (slice_get_cases (puts_sent old.store) place).1
    where
      actors_now : (later : World) → later.actors ≡ w.actors → (name : ℕ) → SlotStands (slot_at new name) (later.actors name)
      actors_now later same name =
          subst (λ (m : BTreeMap ℕ (Option code.Actor)). SlotStands (kept m name) (later.actors name)) (sym actors) (subst (λ (f : ℕ → Option Actor). SlotStands (slot_at old name) (f name)) (sym same) (stands.actors name))

      known_still : objects old.store.store ≡ objects new.store.store → IsFront (objects new.store.store) new.known
      known_still same = subst (λ (o : Objects). IsFront o new.known) same (subst (IsFront (objects old.store.store)) (sym known) stands.known)

      taken : (put : List ℕ × List ℕ) → slice_get (puts_sent old.store) place ≡ Some put → objects new.store.store ≡ with_object (objects old.store.store) put.0 put.1 → new.is_short ≡ old.is_short → HasHappened objects old.is_short w (land place) None new
      taken put is lands_so unshort = record {
        begins = tt;
        hands = tt;
        short = unshort;
        fits = λ is. absurd cc;
        met = land place;
        is = refl;
        told = None;
        tells = tt;
        later = record w { objects = with_object w.objects put.0 put.1 };
        happens = happens_so;
        stands = record {
          objects = landed_now;
          flight = stands.flight ∙ sym sent;
          actors = actors_now (record w { objects = with_object w.objects put.0 put.1 }) refl;
          borne = bears_happens w (land place) None (record w { objects = with_object w.objects put.0 put.1 }) happens_so stands.borne;
          known =
              known_lasts (objects old.store.store) (objects new.store.store) old.known new.known
              (grown_by w (land place) None (record w { objects = with_object w.objects put.0 put.1 }) happens_so (objects old.store.store) (objects new.store.store) stands.objects landed_now) known stands.known;
        };
      }
        where
          landed_now : with_object w.objects put.0 put.1 ≡ objects new.store.store
          landed_now = ap (λ (o : Objects). with_object o put.0 put.1) stands.objects ∙ sym lands_so

          happens_so : Happens w (land place) None (record w { objects = with_object w.objects put.0 put.1 })
          happens_so = lands place put (subst (λ (flight : Flight). slice_get flight place ≡ Some put) (sym stands.flight) is)

      told_there : (put : List ℕ × List ℕ) → slice_get (puts_sent old.store) place ≡ Some put → (found : Put) → result ≡ Ok (Some found) → Some found ≡ landing_told w place
      told_there put is found same =
          let tells : Some found ≡ Some (put_told (object_at (objects old.store.store) put.0)) = subst (λ (r : Result (Option Put) StoreFault). IfOk r (λ t. t ≡ Some (put_told (object_at (objects old.store.store) put.0)))) same (told put.0 put.1 is) in
          let there : slice_get w.flight place ≡ Some put = subst (λ (flight : Flight). slice_get flight place ≡ Some put) (sym stands.flight) is in
          tells ∙ (ap (λ (o : Objects). Some (put_told (object_at o put.0))) (sym stands.objects) ∙ ap (option_map (told_in w)) (sym there))

      by_result : (put : List ℕ × List ℕ) → slice_get (puts_sent old.store) place ≡ Some put → (r : Result (Option Put) StoreFault) → result ≡ r
          → HasLandedAs put.0 put.1 r (objects old.store.store, in_flight old.store.store) (objects new.store.store, in_flight new.store.store) → new.is_short ≡ (landing_out r || old.is_short)
          → LandsAs objects old.is_short w place r new
      by_result put is (Ok None) same so short_so = absurd so
      by_result put is (Ok (Some Created)) same so short_so = (told_there put is Created same, taken put is so.0.0 short_so)
      by_result put is (Ok (Some Exists)) same so short_so = (told_there put is Exists same, taken put is so.0.0 short_so)
      by_result put is (Err Lost) same so short_so = never same
      by_result put is (Err Memory) same so short_so = (record { objects = stands.objects ∙ sym so.0; flight = stands.flight ∙ sym sent; actors = actors_now w refl; borne = stands.borne; known = known_still (sym so.0) }, short_so)

      by_place : ((put : List ℕ × List ℕ) × (place < length (puts_sent old.store)) × (slice_get (puts_sent old.store) place ≡ Some put) × (get_or (puts_sent old.store) place put ≡ put)) ⊎ ((length (puts_sent old.store) ≤ place) × (slice_get (puts_sent old.store) place ≡ None))
          → LandsAs objects old.is_short w place result new
      by_place (inl (put, within, is, same)) = by_result put is result refl (landed put.0 put.1 is) short
      by_place (inr (past, none)) = subst (λ r. LandsAs objects old.is_short w place r new) (sym (nothing past).0) (
        ap (option_map (told_in w)) (sym (subst (λ (flight : Flight). slice_get flight place ≡ None) (sym stands.flight) none)),
        record {
          met = land place;
          is = refl;
          told = None;
          tells = tt;
          later = w;
          happens = nothing_happens (land place) unfit;
          short = subst (λ r. new.is_short ≡ (landing_out r || old.is_short)) (nothing past).0 short;
          fits = λ is. absurd cc;
          begins = tt;
          hands = tt;
          stands = record { objects = stands.objects ∙ ap (λ s. objects s.store) (sym (nothing past).1); flight = stands.flight ∙ sym sent; actors = actors_now w refl; borne = stands.borne; known = same_known (nothing past).1 known };
        },
      )
        where
          unfit : FitsWorld w (land place) → ⊥
          unfit (put, is) = let there : slice_get (puts_sent old.store) place ≡ Some put = subst (λ (flight : Flight). slice_get flight place ≡ Some put) stands.flight is in absurd cc
