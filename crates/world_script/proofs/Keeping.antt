-- What the events of one actor leave: each actor's job, and what was told of its own.
use Rattle.std.proofs.Common.{◌≡◌, ◌∙◌, ◌⊎◌, ℕ, List, [], ◌∷◌, ◌++◌, Bool, true, false, Contains, Option, Some, None, option_map, refl, sym, ap, subst, inl, inr, ⊎_elim}
use Rattle.std.proofs.lemmas.Bool.{cases_eq}
use Rattle.std.proofs.lemmas.List.Elements.{Contains-append_cases, Contains-push_cases}
use Rattle.script_lines.specs.declared.kind.Kind.{Kind}
use Rattle.script_lines.specs.declared.kind.Kind.TheVariants.{Pass}
use Rattle.session_core.specs.Talks.{Talk}
use Rattle.table_jobs.specs.Jobs.{CanBegin, Job, Outcome}
use Rattle.table_store.proofs.ConflictLemmas.{none_contained}
use Rattle.stream_world.specs.Events.{Event, FitsWorld, HasActor, Happens, act, acts, answer, begin, begins, die, dies, ends, goes_on, land, lands, lose_answer, nothing_happens}
use Rattle.stream_world.specs.Worlds.{Actor, World, asking, ended, fresh, with_actor}
use Rattle.stream_world.specs.Standing.{taking}
use Rattle.stream_world.proofs.PairedTold.{comes_actor}
use Rattle.stream_world.proofs.Places.{actor_other, actor_there}
use Rattle.world_script.specs.Acting as acting
use Rattle.world_script.specs.Acting.{ActorMeets, ActorSteps, IsLedOn, Leads, LeadsThrough}
use Rattle.world_script.specs.Lines as does
use Rattle.world_script.specs.Lines.{deed_does}
use Rattle.world_script.specs.declared.named.Deed.{Deed}
use Rattle.world_script.specs.declared.named.Deed.TheVariants as deeds
use Rattle.world_script.proofs.Stepping.{never_taken, taker}

-- ---- the jobs of actors

-- the job of the actor of a number, if there is one
abbrev pub job_there : World → ℕ → Option Job
job_there w n = option_map (λ a. a.job) (w.actors n)

-- each actor that is there was there with its job
abbrev pub OnlyKeeps : (w later : World) → Type 0
OnlyKeeps w later = (n : ℕ) (job : Job) → job_there later n ≡ Some job → job_there w n ≡ Some job

-- an actor has this job now; others that are there were there with theirs
abbrev pub HasBegun : (n : ℕ) → Job → (w later : World) → Type 0
HasBegun n one w later = (k : ℕ) (job : Job) → job_there later k ≡ Some job → ((k ≡ n) × (one ≡ job)) ⊎ ((k ≡ n → ⊥) × (job_there w k ≡ Some job))

module _ (w : World) (name : ℕ) (now : Option Actor) where
  job_now : job_there (with_actor w name now) name ≡ option_map (λ a. a.job) now
  job_now = ap (option_map (λ (a : Actor). a.job)) (actor_there w name now)

  job_still : (n : ℕ) → (n ≡ name → ⊥) → job_there (with_actor w name now) n ≡ job_there w n
  job_still n apart = ap (option_map (λ (a : Actor). a.job)) (actor_other w name now n apart)

  -- the actor of a number changed, and has its job, or is none
  keeps_one : ((job : Job) → option_map (λ (a : Actor). a.job) now ≡ Some job → job_there w name ≡ Some job) → OnlyKeeps w (with_actor w name now)
  keeps_one here n job is = by_cases (cases_eq n name)
    where
      by_cases : (n ≡ name) ⊎ (n ≡ name → ⊥) → job_there w n ≡ Some job
      by_cases (inl same) =
          let there : job_there (with_actor w name now) name ≡ Some job = subst (λ (k : ℕ). job_there (with_actor w name now) k ≡ Some job) same is in
          subst (λ (k : ℕ). job_there w k ≡ Some job) (sym same) (here job (sym job_now ∙ there))
      by_cases (inr apart) = sym (job_still n apart) ∙ is

keeps_going : (w : World) (name : ℕ) (actor next : Actor) → HasActor w name actor → next.job ≡ actor.job → OnlyKeeps w (with_actor w name (Some next))
keeps_going w name actor next has same = keeps_one w name (Some next) (λ job is. ap (option_map (λ (a : Actor). a.job)) has ∙ (ap (λ (j : Job). Some j) (sym same) ∙ is))

-- ---- one event

-- an event by which nobody begins, and no other actor than that of a number does anything
abbrev pub IsStepOf : (n : ℕ) → Event → Type 0
IsStepOf n (begin name job) = ⊥
IsStepOf n (die name) = name ≡ n
IsStepOf n (act name how) = name ≡ n
IsStepOf n (answer name) = name ≡ n
IsStepOf n (lose_answer name) = name ≡ n
IsStepOf n (land place) = Unit {0}

event_keeps : (n : ℕ) (w : World) (event : Event) (told : Option (Job × Outcome)) (later : World) → IsStepOf n event → Happens w event told later → OnlyKeeps w later
event_keeps n w _ _ _ of (begins name job begun before can same borne) = absurd of
event_keeps n w _ _ _ of (dies name) = keeps_one w name None (λ job is. let wrong : None ≡ Some job = is in absurd cc)
event_keeps n w _ _ _ of (acts name how actor call has hand) = keeps_going w name actor _ has refl
event_keeps n w _ _ _ of (goes_on event name actor now call comes does_so of_bytes) = keeps_going w name actor (record actor { talk = now; hand = asking call }) (comes_actor w event name actor now comes) refl
event_keeps n w _ _ _ of (ends event name actor now outcome comes does_so) = keeps_going w name actor (record actor { talk = now; hand = ended outcome }) (comes_actor w event name actor now comes) refl
event_keeps n w _ _ _ of (lands place put is) = λ k job there. there
event_keeps n w _ _ _ of (nothing_happens event unfit) = λ k job there. there

-- whose step it is
whose : (n name : ℕ) (event : Event) → (event ≡ answer name) ⊎ (event ≡ lose_answer name) → IsStepOf n event → name ≡ n
whose n name event (inl is) of = subst (IsStepOf n) is of
whose n name event (inr is) of = subst (IsStepOf n) is of

-- what is told by it is of the job of that actor
event_tells : (n : ℕ) (w : World) (event : Event) (told : Option (Job × Outcome)) (later : World) → IsStepOf n event → Happens w event told later → (one : Job × Outcome) → told ≡ Some one → job_there w n ≡ Some one.0
event_tells n w _ _ _ of (ends event name actor now outcome comes does_so) one is =
    subst (λ (k : ℕ). job_there w k ≡ Some one.0) (whose n name event (taker w event name actor now comes) of)
    (ap (option_map (λ (a : Actor). a.job)) (comes_actor w event name actor now comes) ∙ ap (option_map (λ (t : Job × Outcome). t.0)) is)
event_tells n w _ _ _ of (begins name job begun before can same borne) one is = absurd of
event_tells n w _ _ _ of (dies name) one is = let wrong : None ≡ Some one = is in absurd cc
event_tells n w _ _ _ of (acts name how actor call has hand) one is = let wrong : None ≡ Some one = is in absurd cc
event_tells n w _ _ _ of (goes_on event name actor now call comes does_so of_bytes) one is = let wrong : None ≡ Some one = is in absurd cc
event_tells n w _ _ _ of (lands place put there) one is = let wrong : None ≡ Some one = is in absurd cc
event_tells n w _ _ _ of (nothing_happens event unfit) one is = let wrong : None ≡ Some one = is in absurd cc

-- an actor that begins has its job, whatever its session begins with
begun_now : (w : World) (n : ℕ) (one begun : Job) (before : Talk) → HasBegun n one w (with_actor w n (Some (record { job = one; begun = begun; before = before; talk = []; hand = fresh })))
begun_now w n one begun before k job there = by_cases (cases_eq k n)
  where
    now : Option Actor
    now = Some (record { job = one; begun = begun; before = before; talk = []; hand = fresh })

    by_cases : (k ≡ n) ⊎ (k ≡ n → ⊥) → ((k ≡ n) × (one ≡ job)) ⊎ ((k ≡ n → ⊥) × (job_there w k ≡ Some job))
    by_cases (inl same) =
        let here : job_there (with_actor w n now) n ≡ Some job = subst (λ (m : ℕ). job_there (with_actor w n now) m ≡ Some job) same there in
        let is : Some one ≡ Some job = sym (job_now w n now) ∙ here in
        inl (same, cc)
    by_cases (inr apart) = inr (apart, sym (job_still w n now k apart) ∙ there)

pub begun_by : (w : World) (n : ℕ) (one : Job) (event : Event) (told : Option (Job × Outcome)) (later : World) → event ≡ begin n one → CanBegin one → Happens w event told later → HasBegun n one w later
begun_by w n one _ _ _ is can (begins name job begun before may alike borne) =
    let now : World = with_actor w name (Some (record { job = job; begun = begun; before = before; talk = []; hand = fresh })) in
    let same_name : name ≡ n = cc in
    let same_job : job ≡ one = cc in
    subst (λ (k : ℕ). HasBegun k one w now) same_name (subst (λ (j : Job). HasBegun name j w now) same_job (begun_now w name job begun before))
begun_by w n one _ _ _ is can (dies name) = absurd cc
begun_by w n one _ _ _ is can (acts name how actor call has hand) = absurd cc
begun_by w n one _ _ _ is can (goes_on event name actor now call comes does_so of_bytes) = absurd (never_taken n one event name is (taker w event name actor now comes))
begun_by w n one _ _ _ is can (ends event name actor now outcome comes does_so) = absurd (never_taken n one event name is (taker w event name actor now comes))
begun_by w n one _ _ _ is can (lands place put there) = absurd cc
begun_by w n one _ _ _ is can (nothing_happens event unfit) = absurd (unfit (subst (λ (e : Event). FitsWorld w e) (sym is) can))

-- one that dies is gone
never_dies : (n : ℕ) (event : Event) (name : ℕ) → event ≡ die n → (event ≡ answer name) ⊎ (event ≡ lose_answer name) → ⊥
never_dies n event name is (inl a) = cc
never_dies n event name is (inr a) = cc

pub gone_by : (w : World) (n : ℕ) (event : Event) (told : Option (Job × Outcome)) (later : World) → event ≡ die n → Happens w event told later → job_there later n ≡ None
gone_by w n _ _ _ is (dies name) =
    let same : name ≡ n = cc in
    subst (λ (k : ℕ). job_there (with_actor w name None) k ≡ None) same (job_now w name None)
gone_by w n _ _ _ is (begins name job begun before may alike borne) = cc
gone_by w n _ _ _ is (acts name how actor call has hand) = cc
gone_by w n _ _ _ is (goes_on event name actor now call comes does_so of_bytes) = absurd (never_dies n event name is (taker w event name actor now comes))
gone_by w n _ _ _ is (ends event name actor now outcome comes does_so) = absurd (never_dies n event name is (taker w event name actor now comes))
gone_by w n _ _ _ is (lands place put there) = cc
gone_by w n _ _ _ is (nothing_happens event unfit) = absurd (unfit (subst (λ (e : Event). FitsWorld w e) (sym is) tt))

-- ---- events that follow one another

-- each job that was begun is one of these
abbrev pub AreHanded : List Event → List Job → Type 0
AreHanded seen jobs = (name : ℕ) (job : Job) → Contains seen (begin name job) → Contains jobs job

-- Steps of the actor of a number: each actor that is there then was there with its job, nobody began, and what was told
-- is of the job of that actor.
pub record AreStepsOf (n : ℕ) (w : World) (seen : List Event) (told : Option (Job × Outcome)) (later : World) : Type 0 where
  pub keeps : OnlyKeeps w later
  pub nobody : AreHanded seen []
  pub of_job : (one : Job × Outcome) → told ≡ Some one → job_there w n ≡ Some one.0

no_step : (n : ℕ) (w : World) → AreStepsOf n w [] None w
no_step n w = record { keeps = λ k job there. there; nobody = λ name job has. absurd (none_contained (begin name job) has); of_job = λ one is. let wrong : None ≡ Some one = is in absurd cc }

pub one_step : (n : ℕ) (w : World) (event : Event) (told : Option (Job × Outcome)) (later : World) → IsStepOf n event → Happens w event told later → AreStepsOf n w (event ∷ []) told later
one_step n w event told later of happens = record {
  keeps = event_keeps n w event told later of happens;
  nobody = λ name job has. ⊎_elim (λ none. absurd (none_contained (begin name job) none)) (λ is. absurd (subst (IsStepOf n) is of)) (Contains-push_cases [] event (begin name job) has);
  of_job = event_tells n w event told later of happens;
}

more_steps : (n : ℕ) (w : World) (seen : List Event) (mid : World) (more : List Event) (told : Option (Job × Outcome)) (later : World) → AreStepsOf n w seen None mid → AreStepsOf n mid more told later → AreStepsOf n w (seen ++ more) told later
more_steps n w seen mid more told later first then_so = record {
  keeps = λ k job there. first.keeps k job (then_so.keeps k job there);
  nobody = λ name job has. ⊎_elim (first.nobody name job) (then_so.nobody name job) (Contains-append_cases seen more (begin name job) has);
  of_job = λ one is. first.keeps n one.0 (then_so.of_job one is);
}

-- ---- what a line does to an actor

taking_of : (n : ℕ) (l : Bool) → IsStepOf n (taking n l)
taking_of n true = refl
taking_of n false = refl

steps_of : (n : ℕ) (kind : Kind) (w : World) (seen : List Event) (told : Option (Job × Outcome)) (later : World) → ActorSteps n kind w seen told later → AreStepsOf n w seen told later
steps_of n kind w _ _ _ (acting.begins told later next happens) = one_step n w (answer n) told later refl happens
steps_of n kind w _ _ _ (acting.calls c how mid told later next met acted happens) =
    more_steps n w (act n how ∷ []) mid (taking n (acting.loses_how kind how) ∷ []) told later (one_step n w (act n how) None mid refl acted)
    (one_step n mid (taking n (acting.loses_how kind how)) told later (taking_of n (acting.loses_how kind how)) happens)

meets_of : (n : ℕ) (kind : Kind) (w : World) (seen : List Event) (told : Option (Job × Outcome)) (later : World) → ActorMeets n kind w seen told later → AreStepsOf n w seen told later
meets_of n kind w _ _ _ (acting.meets_now c seen told later next steps) = steps_of n kind w seen told later steps
meets_of n kind w _ _ _ (acting.ends_before seen told later next steps) = steps_of n kind w seen (Some told) later steps
meets_of n kind w _ _ _ (acting.meets_then seen mid more told later next steps then_steps) = more_steps n w seen mid more told later (steps_of n kind w seen None mid steps) (steps_of n kind mid more told later then_steps)

on_of : (n : ℕ) (h : Bool) (w : World) (seen : List Event) (later : World) → IsLedOn n h w seen later → AreStepsOf n w seen None later
on_of n h w _ _ acting.at_first = no_step n w
on_of n h w _ _ (acting.then_one seen mid more later on go_on steps) = more_steps n w seen mid more None later (on_of n h w seen mid on) (steps_of n Pass mid more None later steps)

leads_of : (n : ℕ) (h : Bool) (w : World) (seen : List Event) (told : Option (Job × Outcome)) (later : World) → Leads n h w seen told later → AreStepsOf n w seen told later
leads_of n h w _ _ _ (acting.halts seen later may on there) = on_of n h w seen later on
leads_of n h w _ _ _ (acting.ends seen mid more told later on go_on steps) = more_steps n w seen mid more (Some told) later (on_of n h w seen mid on) (steps_of n Pass mid more (Some told) later steps)

pub through_of : (n : ℕ) (fault : Option Kind) (w : World) (seen : List Event) (told : Job × Outcome) (left : Option Kind) (later : World) → LeadsThrough n fault w seen told left later → AreStepsOf n w seen (Some told) later
through_of n _ _ _ _ _ _ (acting.unhindered w seen told later leads) = leads_of n false w seen (Some told) later leads
through_of n _ _ _ _ _ _ (acting.in_front kind w seen told later leads) = leads_of n true w seen (Some told) later leads
through_of n _ _ _ _ _ _ (acting.by_it kind w seen mid more told later leads steps) = more_steps n w seen mid more (Some told) later (leads_of n true w seen None mid leads) (steps_of n kind mid more (Some told) later steps)
through_of n _ _ _ _ _ _ (acting.behind kind w seen mid more after rest told later leads steps on) =
    more_steps n w (seen ++ more) after rest (Some told) later (more_steps n w seen mid more None after (leads_of n true w seen None mid leads) (steps_of n kind mid more None after steps))
    (leads_of n false after rest (Some told) later on)

pub deed_of : (deed : Deed) (n : ℕ) (w : World) (seen : List Event) (told : Option (Job × Outcome)) (later : World) → deed_does deed n w seen told later → AreStepsOf n w seen told later
deed_of deeds.Until n w seen told later leads = leads_of n true w seen told later leads
deed_of (deeds.Step kind) n w seen told later meets = meets_of n kind w seen told later meets
deed_of deeds.Finish n w seen told later leads = leads_of n false w seen told later leads
deed_of deeds.Die n w _ _ _ (does.dies_now later happens) = one_step n w (die n) None later refl happens
