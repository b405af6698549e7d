-- What a step of an actor leaves.
use Rattle.std.proofs.Common.{◌≡◌, ◌⊎◌, ℕ, [], ◌∷◌, Bool, true, false, Option, Some, None, option_map, refl, sym, ◌∙◌, ◌&&◌, not, ap, subst, inl, inr, List}
use Rattle.script_lines.specs.declared.kind.Kind.{Kind}
use Rattle.script_lines.specs.declared.kind.Kind.TheVariants as kinds
use Rattle.store_core.specs.Objects.{Objects}
use Rattle.session_core.specs.Talks.{Asked, Talk, Told, get_object, list_names, put_commit, put_file}
use Rattle.table_jobs.specs.Jobs.{Job, Outcome, CanBegin}
use Rattle.stream_world.specs.Events.{Event, FitsWorld, HasActor, Happens, ComesToTalk, act, acts, answer, begin, begins, begins_now, dies, ends, goes_on, lands, lose_answer, loses, nothing_happens, takes}
use Rattle.session_core.specs.CallEffects.{told_by_call}
use Rattle.stream_world.specs.Worlds.{Actor, Hand, How, World, acted, asking, ended, fresh, late, lost, once, short, told_how, twice, waiting, with_actor}
use Rattle.stream_world.specs.EventViews.{IsMetAs, IsMetIn}
use Rattle.stream_world.specs.Standing.{HasHappened, TellsAs, WorldStands, taking}
use Rattle.table_jobs.specs.declared.job_session.JobEnd as code_end
use Rattle.stream_world.specs.declared.world.World as code_world
use Rattle.stream_world.proofs.Places.{actor_there}
use Rattle.world_script.specs.Acting.{CameBy, ActorSteps, calls, hand_at, how_of, is_commit_put, is_memory, loses_answer, next_at}
use Rattle.world_script.specs.Acting as stepping
use Rattle.world_script.specs.declared.acting.Next.TheVariants as nexts

-- ---- what comes next

-- it has no session
nothing_there : (w : World) (n : ℕ) → w.actors n ≡ None → next_at (hand_at w n) ≡ nexts.Nothing
nothing_there w n none = ap (λ (o : Option Actor). next_at (option_map (λ a. a.hand) o)) none

hand_there : (w : World) (n : ℕ) (actor : Actor) → HasActor w n actor → hand_at w n ≡ Some actor.hand
hand_there w n actor there = ap (option_map (λ a. a.hand)) there

-- where a step is next, its answer fits
step_by_hand : (w : World) (n : ℕ) (actor : Actor) (hand : Hand) → HasActor w n actor → actor.hand ≡ hand → next_at (Some hand) ≡ nexts.Step → FitsWorld w (answer n)
step_by_hand w n actor fresh there is next = (actor, there, inl is)
step_by_hand w n actor (waiting call told) there is next = (actor, there, inr (call, told, is))
step_by_hand w n actor (asking call) there is next = cc
step_by_hand w n actor (ended outcome) there is next = cc

step_by : (w : World) (n : ℕ) (found : Option Actor) → w.actors n ≡ found → next_at (hand_at w n) ≡ nexts.Step → FitsWorld w (answer n)
step_by w n None none next = let wrong : nexts.Nothing ≡ nexts.Step = sym (nothing_there w n none) ∙ next in cc
step_by w n (Some actor) there next = step_by_hand w n actor actor.hand there refl (ap next_at (sym (hand_there w n actor there)) ∙ next)

pub step_fits : (w : World) (n : ℕ) → next_at (hand_at w n) ≡ nexts.Step → FitsWorld w (answer n)
step_fits w n next = step_by w n (w.actors n) refl next

-- where a call is next, an act fits
call_by_hand : (w : World) (n : ℕ) (how : How) (c : Bool) (actor : Actor) (hand : Hand) → HasActor w n actor → actor.hand ≡ hand → next_at (Some hand) ≡ nexts.Call c → FitsWorld w (act n how)
call_by_hand w n how c actor (asking call) there is next = (actor, call, there, is)
call_by_hand w n how c actor fresh there is next = cc
call_by_hand w n how c actor (waiting call told) there is next = cc
call_by_hand w n how c actor (ended outcome) there is next = cc

call_by : (w : World) (n : ℕ) (how : How) (c : Bool) (found : Option Actor) → w.actors n ≡ found → next_at (hand_at w n) ≡ nexts.Call c → FitsWorld w (act n how)
call_by w n how c None none next = let wrong : nexts.Nothing ≡ nexts.Call c = sym (nothing_there w n none) ∙ next in cc
call_by w n how c (Some actor) there next = call_by_hand w n how c actor actor.hand there refl (ap next_at (sym (hand_there w n actor there)) ∙ next)

pub call_fits : (w : World) (n : ℕ) (how : How) (c : Bool) → next_at (hand_at w n) ≡ nexts.Call c → FitsWorld w (act n how)
call_fits w n how c next = call_by w n how c (w.actors n) refl next

-- ---- events

-- who takes an answer
pub taker : (w : World) (event : Event) (name : ℕ) (actor : Actor) (now : Talk) → ComesToTalk w event name actor now → (event ≡ answer name) ⊎ (event ≡ lose_answer name)
taker w _ _ _ _ (begins_now name actor there is) = inl refl
taker w _ _ _ _ (takes name actor call told there is) = inl refl
taker w _ _ _ _ (loses name actor call told there is) = inr refl

not_taking : (n : ℕ) (how : How) (event : Event) (name : ℕ) → event ≡ act n how → (event ≡ answer name) ⊎ (event ≡ lose_answer name) → ⊥
not_taking n how event name is (inl a) = cc
not_taking n how event name is (inr a) = cc

pub never_taken : (n : ℕ) (job : Job) (event : Event) (name : ℕ) → event ≡ begin n job → (event ≡ answer name) ⊎ (event ≡ lose_answer name) → ⊥
never_taken n job event name is (inl a) = cc
never_taken n job event name is (inr a) = cc

-- behind a call that was answered its answer waits
pub record HasMet (w : World) (n : ℕ) (how : How) (mid : World) : Type 0 where
  pub actor : Actor
  pub call : Asked
  pub told : Told
  pub there : HasActor mid n actor
  pub waits : actor.hand ≡ waiting call told
  pub so : told ≡ told_how how w.objects call

met_here : (w : World) (name : ℕ) (how : How) (actor : Actor) (call : Asked) → HasMet w name how (acted w name actor call how)
met_here w name how actor call = record {
  actor = record actor { hand = waiting call (told_how how w.objects call) };
  call = call;
  told = told_how how w.objects call;
  there = actor_there w name (Some (record actor { hand = waiting call (told_how how w.objects call) }));
  waits = refl;
  so = refl;
}

has_met : (w : World) (n : ℕ) (how : How) (event : Event) (out : Option (Job × Outcome)) (mid : World) → event ≡ act n how → Happens w event out mid → FitsWorld w event → HasMet w n how mid
has_met w n how _ _ _ is (acts name how2 actor call there asks) fits =
    let same : name ≡ n = cc in
    let same_how : how2 ≡ how = cc in
    subst (λ (k : ℕ). HasMet w k how (acted w name actor call how2)) same (subst (λ (h : How). HasMet w name h (acted w name actor call how2)) same_how (met_here w name how2 actor call))
has_met w n how _ _ _ is (begins name job begun before can same borne) fits = cc
has_met w n how _ _ _ is (dies name) fits = cc
has_met w n how _ _ _ is (goes_on event name actor now call taken does of_bytes) fits = absurd (not_taking n how event name is (taker w event name actor now taken))
has_met w n how _ _ _ is (ends event name actor now outcome taken does) fits = absurd (not_taking n how event name is (taker w event name actor now taken))
has_met w n how _ _ _ is (lands place put there) fits = cc
has_met w n how _ _ _ is (nothing_happens event unfit) fits = absurd (unfit fits)

-- so the session takes it, or the loss of it
waits_then : (w : World) (n : ℕ) (how : How) (l : Bool) (mid : World) → HasMet w n how mid → FitsWorld mid (taking n l)
waits_then w n how true mid met = (met.actor, met.call, met.told, met.there, met.waits)
waits_then w n how false mid met = (met.actor, met.there, inr (met.call, met.told, met.waits))

-- an actor whose session has gone on without an end asks for a call
abbrev is_taking : ℕ → Event → Type 0
is_taking n event = (event ≡ answer n) ⊎ (event ≡ lose_answer n)

abbrev pub asks_next : World → ℕ → Type 0
asks_next w n = (c : Bool) × (next_at (hand_at w n) ≡ nexts.Call c)

asks_at : (w : World) (n name : ℕ) (actor : Actor) (call : Asked) → name ≡ n → actor.hand ≡ asking call → asks_next (with_actor w name (Some actor)) n
asks_at w n name actor call same asks =
    let there : hand_at (with_actor w name (Some actor)) name ≡ Some (asking call) = hand_there (with_actor w name (Some actor)) name actor (actor_there w name (Some actor)) ∙ ap Some asks in
    let here : hand_at (with_actor w name (Some actor)) n ≡ Some (asking call) = subst (λ (k : ℕ). hand_at (with_actor w name (Some actor)) k ≡ Some (asking call)) same there in
    (is_commit_put call, ap next_at here)

same_name : (n m : ℕ) (event : Event) → is_taking n event → (event ≡ answer m) ⊎ (event ≡ lose_answer m) → m ≡ n
same_name n m event (inl a) (inl b) = cc
same_name n m event (inl a) (inr b) = cc
same_name n m event (inr a) (inl b) = cc
same_name n m event (inr a) (inr b) = cc

asks_then : (w : World) (n : ℕ) (event : Event) (out : Option (Job × Outcome)) (later : World) → is_taking n event → out ≡ None → Happens w event out later → FitsWorld w event → asks_next later n
asks_then w n _ _ _ is none (goes_on event name actor now call taken does of_bytes) fits = asks_at w n name _ call (same_name n name event is (taker w event name actor now taken)) refl
asks_then w n _ _ _ is none (ends event name actor now outcome taken does) fits = cc
asks_then w n _ _ _ (inl is) none (begins name job begun before can same borne) fits = cc
asks_then w n _ _ _ (inr is) none (begins name job begun before can same borne) fits = cc
asks_then w n _ _ _ (inl is) none (dies name) fits = cc
asks_then w n _ _ _ (inr is) none (dies name) fits = cc
asks_then w n _ _ _ (inl is) none (acts name how actor call there asks) fits = cc
asks_then w n _ _ _ (inr is) none (acts name how actor call there asks) fits = cc
asks_then w n _ _ _ (inl is) none (lands place put there) fits = cc
asks_then w n _ _ _ (inr is) none (lands place put there) fits = cc
asks_then w n _ _ _ is none (nothing_happens event unfit) fits = absurd (unfit fits)

taking_is : (n : ℕ) (l : Bool) → is_taking n (taking n l)
taking_is n true = inr refl
taking_is n false = inl refl

-- behind a step that is not the last one it asks for a call
pub still_asks : (n : ℕ) (kind : Kind) (w : World) (events : List Event) (told : Option (Job × Outcome)) (later : World) → told ≡ None → ActorSteps n kind w events told later → asks_next later n
still_asks n kind w _ _ _ none (stepping.begins told later next happens) = asks_then w n (answer n) told later (inl refl) none happens (step_fits w n next)
still_asks n kind w _ _ _ none (calls c how mid told later next met acted happens) =
    asks_then mid n (taking n (stepping.loses_how kind how)) told later (taking_is n (stepping.loses_how kind how)) none happens (waits_then w n how (stepping.loses_how kind how) mid (has_met w n how (act n how) None mid refl acted (call_fits w n how c next)))

-- so something comes next
pub still_goes : (n : ℕ) (kind : Kind) (w : World) (events : List Event) (told : Option (Job × Outcome)) (later : World) → told ≡ None → ActorSteps n kind w events told later → next_at (hand_at later n) ≡ nexts.Nothing → ⊥
still_goes n kind w events told later none steps nothing = let one = still_asks n kind w events told later none steps in let wrong : nexts.Call one.0 ≡ nexts.Nothing = sym one.1 ∙ nothing in cc

-- an actor that has begun makes its first step next
pub begun_steps : (w : World) (n : ℕ) (job : Job) (event : Event) (out : Option (Job × Outcome)) (later : World) → event ≡ begin n job → CanBegin job → Happens w event out later → next_at (hand_at later n) ≡ nexts.Step
begun_steps w n job _ _ _ is can (begins name one begun before may alike borne) =
    let same : name ≡ n = cc in
    let now : Actor = record { job = one; begun = begun; before = before; talk = []; hand = fresh } in
    subst (λ (k : ℕ). next_at (hand_at (with_actor w name (Some now)) k) ≡ nexts.Step) same (ap next_at (hand_there (with_actor w name (Some now)) name now (actor_there w name (Some now))))
begun_steps w n job _ _ _ is can (dies name) = cc
begun_steps w n job _ _ _ is can (acts name how actor call there asks) = cc
begun_steps w n job _ _ _ is can (goes_on event name actor now call taken does of_bytes) = absurd (never_taken n job event name is (taker w event name actor now taken))
begun_steps w n job _ _ _ is can (ends event name actor now outcome taken does) = absurd (never_taken n job event name is (taker w event name actor now taken))
begun_steps w n job _ _ _ is can (lands place put there) = cc
begun_steps w n job _ _ _ is can (nothing_happens event unfit) = absurd (unfit (subst (λ (e : Event). FitsWorld w e) (sym is) can))

-- ---- in the code

told_none : (told : Option (Job × Outcome)) → TellsAs None told → told ≡ None
told_none None tells = refl
told_none (Some told) tells = absurd tells

-- a call that takes effect isn't told that memory ran out
by_call : (objects : Objects) (call : Asked) → is_memory (told_by_call objects call) ≡ false
by_call objects list_names = refl
by_call objects (get_object name) = refl
by_call objects (put_file name bytes) = refl
by_call objects (put_commit version bytes) = refl

-- so its answer is lost just where the kind says so and it took effect
loses_so : (kind : Kind) (how : How) (objects : Objects) (call : Asked) (ran : Bool) → IsMetIn (how_of kind) how → ran ≡ is_memory (told_how how objects call) → (loses_answer kind && not ran) ≡ stepping.loses_how kind how
loses_so kinds.Pass how objects call ran met is = loses_pass how
  where
    loses_pass : (how : How) → false ≡ stepping.loses_how kinds.Pass how
    loses_pass once = refl
    loses_pass twice = refl
    loses_pass late = refl
    loses_pass lost = refl
    loses_pass short = refl
loses_so kinds.Lost how objects call ran met is = loses_lost how
  where
    loses_lost : (how : How) → false ≡ stepping.loses_how kinds.Lost how
    loses_lost once = refl
    loses_lost twice = refl
    loses_lost late = refl
    loses_lost lost = refl
    loses_lost short = refl
loses_so kinds.Late how objects call ran met is = loses_late how
  where
    loses_late : (how : How) → false ≡ stepping.loses_how kinds.Late how
    loses_late once = refl
    loses_late twice = refl
    loses_late late = refl
    loses_late lost = refl
    loses_late short = refl
loses_so kinds.Twice how objects call ran met is = loses_twice how
  where
    loses_twice : (how : How) → false ≡ stepping.loses_how kinds.Twice how
    loses_twice once = refl
    loses_twice twice = refl
    loses_twice late = refl
    loses_twice lost = refl
    loses_twice short = refl
loses_so kinds.Mute once objects call ran met is = rw (is ∙ by_call objects call) refl
loses_so kinds.Mute short objects call ran met is = rw is refl
loses_so kinds.Mute twice objects call ran (inl wrong) is = cc
loses_so kinds.Mute twice objects call ran (inr wrong) is = cc
loses_so kinds.Mute late objects call ran (inl wrong) is = cc
loses_so kinds.Mute late objects call ran (inr wrong) is = cc
loses_so kinds.Mute lost objects call ran (inl wrong) is = cc
loses_so kinds.Mute lost objects call ran (inr wrong) is = cc

module _ {S : Type 0} (stored : S → Objects) (n : ℕ) (kind : Kind) (w : World) where
  -- a session makes its first step, or takes the answer that waits
  pub stepped : {b : Bool} (outcome : Option code_end.JobEnd) (world : code_world.World S) → next_at (hand_at w n) ≡ nexts.Step → HasHappened stored b w (answer n) outcome world → CameBy stored (ActorSteps n kind w) outcome world
  stepped outcome world next was = record {
    events = answer n ∷ [];
    told = was.told;
    later = was.later;
    done = stepping.begins was.told was.later next (subst (λ (e : Event). Happens w e was.told was.later) was.is was.happens);
    tells = was.tells;
    hands = was.hands;
    stands = was.stands;
  }

  -- its call is answered, and it goes on
  pub called : {b a : Bool} (c l ran : Bool) (outcome : Option code_end.JobEnd) (mid world : code_world.World S) → next_at (hand_at w n) ≡ nexts.Call c → HasHappened stored b w (act n (how_of kind)) None mid
      → ((v : World) → WorldStands stored mid v → (call : Asked) (told : Told) → hand_at v n ≡ Some (waiting call told) → ran ≡ is_memory told) → l ≡ (loses_answer kind && not ran)
      → ((v : World) → WorldStands stored mid v → HasHappened stored a v (taking n l) outcome world) → CameBy stored (ActorSteps n kind w) outcome world
  called c l ran outcome mid world next acted shorts says goes =
      let one = acted.is in
      let was = goes acted.later acted.stands in
      let happened : Happens w (act n one.0) None acted.later = subst (λ (o : Option (Job × Outcome)). Happens w (act n one.0) o acted.later) (told_none acted.told acted.tells) (subst (λ (e : Event). Happens w e acted.told acted.later) one.2 acted.happens) in
      let met : HasMet w n one.0 acted.later = has_met w n one.0 (act n one.0) None acted.later refl happened (call_fits w n one.0 c next) in
      let is_short : ran ≡ is_memory met.told = shorts acted.later acted.stands met.call met.told (hand_there acted.later n met.actor met.there ∙ ap Some met.waits) in
      let so : l ≡ stepping.loses_how kind one.0 = says ∙ loses_so kind one.0 w.objects met.call ran one.1 (is_short ∙ ap is_memory met.so) in
      record {
        events = act n one.0 ∷ taking n (stepping.loses_how kind one.0) ∷ [];
        told = was.told;
        later = was.later;
        done = calls c one.0 acted.later was.told was.later next one.1 happened (subst (λ (b : Bool). Happens acted.later (taking n b) was.told was.later) so (taken l was.met was.is was.told was.later was.happens));
        tells = was.tells;
        hands = was.hands;
        stands = was.stands;
      }
    where
      taken : (l : Bool) (met : Event) → IsMetAs (taking n l) met → (told : Option (Job × Outcome)) (later : World) → Happens acted.later met told later → Happens acted.later (taking n l) told later
      taken true met is told later happens = subst (λ (e : Event). Happens acted.later e told later) is happens
      taken false met is told later happens = subst (λ (e : Event). Happens acted.later e told later) is happens
