-- What was told by events of the code, with the job that each actor began last.
use Rattle.std.proofs.Common.{◌≡◌, ◌∙◌, ◌⊎◌, ℕ, ◌+◌, ◌==◌, Bool, true, false, List, [], ◌∷◌, ◌++◌, length, Contains, Option, None, Some, map, option_map, if◌then◌else◌, ap, append-nil, append_assoc, arith, inl, inr, refl, subst, sym}
use Rattle.std.proofs.lemmas.Bool.{cases_eq}
use Rattle.std.proofs.lemmas.Bool.Decides.{nat_tests}
use Rattle.std.proofs.lemmas.List.{length-map, length_push, map-append}
use Rattle.std.proofs.lemmas.List.Elements.{Contains-append_left, Contains-push, Contains-push_cases}
use Rattle.std.proofs.lemmas.Str.{IsUtf8-string_bytes}
use Rattle.store_core.specs.Objects.{Objects}
use Rattle.session_core.specs.Talks.{Talk}
use Rattle.stream_model.specs.SoundStores.{IsSoundStore}
use Rattle.table_model.specs.Table.{Entry}
use Rattle.stream_model.specs.Holds.{Holds}
use Rattle.stream_model.specs.TableSchema.{Schema}
use Rattle.table_jobs.specs.Jobs.{CanBegin, Ends, Job, Outcome, checkpoint, checkpoints, creates, creation, load, loads, read, reads, stream, streams}
use Rattle.table_jobs.specs.Sessions.{end_view}
use Rattle.table_jobs.specs.Views.{job_view}
use Rattle.table_jobs.specs.declared.job.Job as code_job
use Rattle.table_jobs.specs.declared.job.Job.TheVariants as jobs
use Rattle.table_jobs.specs.declared.job_session.JobEnd as code_end
use Rattle.stream_model.specs.Events.{ComesToTalk, Event, FitsWorld, Happens, IsWorldOf, act, acts, answer, begin, begins, begins_now, die, dies, ends, goes_on, land, lands, lose_answer, loses, nothing_happens, takes, with_told}
use Rattle.stream_model.specs.Headline.{IsHeadline}
use Rattle.stream_model.specs.Puts.{Submitted, WasBegun, WasCreated}
use Rattle.stream_model.specs.Worlds.{Actor, IsBegunAs, IsFirstStore, World, asking, ended, first_world, fresh, with_actor}
use Rattle.stream_world.specs.EventViews.{IsMetAs, event_view}
use Rattle.stream_world.specs.Paired.{AreOwned, IsOfKind, IsOwned, job_begun, job_going_on, out_of, outs_told}
use Rattle.stream_world.specs.Running.{AreEventsSo, AreRun, HasRun, at_first, then_one}
use Rattle.stream_world.specs.Standing.{TellsAs}
use Rattle.stream_world.specs.declared.event.Event as code_event
use Rattle.stream_world.specs.declared.event.Event.TheVariants as code_events
use Rattle.stream_world.specs.declared.world.World as code_world
use Rattle.stream_world.proofs.Places.{actor_other, actor_there}
use Rattle.stream_world.proofs.Runs.{ran_so}

-- ---- lists

-- events behind others, the latest first
abbrev pub latest_first : List Event → List Event → List Event
latest_first before [] = before
latest_first before (event ∷ events) = latest_first (event ∷ before) events

latest_push : (before events : List Event) (event : Event) → latest_first before (events ++ event ∷ []) ≡ event ∷ latest_first before events
latest_push before [] event = refl
latest_push before (one ∷ events) event = latest_push (one ∷ before) events event

-- what one more event told stands last
outs_push : (before events : List Event) (told : List (Option Outcome)) (event : Event) (next : Option Outcome) → length told ≡ length events
    → outs_told before (events ++ event ∷ []) (told ++ next ∷ []) ≡ outs_told before events told ++ out_of (job_going_on (latest_first before events) event) next
outs_push before [] [] event next same = append-nil (out_of (job_going_on before event) next)
outs_push before (one ∷ events) (first ∷ told) event next same =
    ap (λ (os : List (Job × Outcome)). out_of (job_going_on before one) first ++ os) (outs_push (one ∷ before) events told event next (length_tail same))
    ∙ sym (append_assoc (out_of (job_going_on before one) first) (outs_told (one ∷ before) events told) (out_of (job_going_on (latest_first (one ∷ before) events) event) next))
  where
    length_tail : length (first ∷ told) ≡ length (one ∷ events) → length told ≡ length events
    length_tail is = cc
outs_push before [] (first ∷ told) event next same = absurd cc
outs_push before (one ∷ events) [] event next same = absurd cc

-- the same of whose it is
owned_push : (before events : List Event) (told : List (Option Outcome)) (event : Event) (next : Option Outcome) → length told ≡ length events → AreOwned before events told → IsOwned (job_going_on (latest_first before events) event) next
    → AreOwned before (events ++ event ∷ []) (told ++ next ∷ [])
owned_push before [] [] event next same owned is = (is, tt)
owned_push before (one ∷ events) (first ∷ told) event next same owned is = (owned.0, owned_push (one ∷ before) events told event next (length_tail same) owned.1 is)
  where
    length_tail : length (first ∷ told) ≡ length (one ∷ events) → length told ≡ length events
    length_tail both = cc
owned_push before [] (first ∷ told) event next same owned is = absurd cc
owned_push before (one ∷ events) [] event next same owned is = absurd cc

-- ---- the job that an actor began last

-- an event that is met otherwise begins the same
begun_alike : (name : ℕ) (event met : Event) (before after : List Event) → IsMetAs event met → job_begun name before ≡ job_begun name after → job_begun name (event ∷ before) ≡ job_begun name (met ∷ after)
begun_alike name (begin other job) met before after is same =
    ap (λ (found : Option Job). if name == other then Some job else found) same ∙ ap (λ (e : Event). job_begun name (e ∷ after)) (sym is)
begun_alike name (act other how) met before after (one, is, same_met) same = same ∙ ap (λ (e : Event). job_begun name (e ∷ after)) (sym same_met)
begun_alike name (die other) met before after is same = same ∙ ap (λ (e : Event). job_begun name (e ∷ after)) (sym is)
begun_alike name (answer other) met before after is same = same ∙ ap (λ (e : Event). job_begun name (e ∷ after)) (sym is)
begun_alike name (lose_answer other) met before after is same = same ∙ ap (λ (e : Event). job_begun name (e ∷ after)) (sym is)
begun_alike name (land place) met before after is same = same ∙ ap (λ (e : Event). job_begun name (e ∷ after)) (sym is)

-- each actor does the job that it began last, whatever its session knew when it began
abbrev pub AreBegun : World → List Event → Type 0
AreBegun w before = (name : ℕ) (actor : Actor) → w.actors name ≡ Some actor → (job_begun name before ≡ Some actor.job) × IsBegunAs actor.job actor.begun

same_actor : (one other : Actor) → Some one ≡ Some other → one ≡ other
same_actor one other is = cc

-- the actor of a number is another one now
one_begun : (w : World) (other : ℕ) (now : Option Actor) (before after : List Event) → AreBegun w before → ((name : ℕ) → (name ≡ other → ⊥) → job_begun name after ≡ job_begun name before)
    → ((actor : Actor) → now ≡ Some actor → (job_begun other after ≡ Some actor.job) × IsBegunAs actor.job actor.begun) → AreBegun (with_actor w other now) after
one_begun w other now before after begun still there name actor is = by_cases (cases_eq name other)
  where
    by_cases : (name ≡ other) ⊎ (name ≡ other → ⊥) → (job_begun name after ≡ Some actor.job) × IsBegunAs actor.job actor.begun
    by_cases (inl same) =
        let at_other : (with_actor w other now).actors other ≡ Some actor = subst (λ (k : ℕ). (with_actor w other now).actors k ≡ Some actor) same is in
        let here = there actor (sym (actor_there w other now) ∙ at_other) in
        (subst (λ (k : ℕ). job_begun k after ≡ Some actor.job) (sym same) here.0, here.1)
    by_cases (inr apart) = let was = begun name actor (sym (actor_other w other now name apart) ∙ is) in (still name apart ∙ was.0, was.1)

-- one that goes on with its job
same_begun : (w : World) (name : ℕ) (actor next : Actor) (before : List Event) → AreBegun w before → w.actors name ≡ Some actor → next.job ≡ actor.job → next.begun ≡ actor.begun → AreBegun (with_actor w name (Some next)) before
same_begun w name actor next before begun has same same_known =
    let was = begun name actor has in
    let so : IsBegunAs next.job next.begun = subst (IsBegunAs next.job) (sym same_known) (subst (λ (j : Job). IsBegunAs j actor.begun) (sym same) was.1) in
    one_begun w name (Some next) before before begun (λ other apart. refl) (λ one is.
    (was.0 ∙ ap (λ (j : Job). Some j) (sym same ∙ ap (λ (a : Actor). a.job) (same_actor next one is)), subst (λ (a : Actor). IsBegunAs a.job a.begun) (same_actor next one is) so))

-- an event by which nobody begins
abbrev pub BeginsNobody : Event → Type 0
BeginsNobody (begin name job) = ⊥
BeginsNobody event = Unit {0}

not_begun : (event : Event) → BeginsNobody event → (name : ℕ) (before : List Event) → job_begun name (event ∷ before) ≡ job_begun name before
not_begun (begin other job) none name before = absurd none
not_begun (die other) none name before = refl
not_begun (act other how) none name before = refl
not_begun (answer other) none name before = refl
not_begun (lose_answer other) none name before = refl
not_begun (land place) none name before = refl

-- by what makes a session go on nobody begins
comes_nobody : (w : World) (event : Event) (name : ℕ) (actor : Actor) (now : Talk) → ComesToTalk w event name actor now → BeginsNobody event
comes_nobody w event name actor now (begins_now _ _ has hand) = tt
comes_nobody w event name actor now (takes _ _ call told has hand) = tt
comes_nobody w event name actor now (loses _ _ call told has hand) = tt

pub comes_actor : (w : World) (event : Event) (name : ℕ) (actor : Actor) (now : Talk) → ComesToTalk w event name actor now → w.actors name ≡ Some actor
comes_actor w event name actor now (begins_now _ _ has hand) = has
comes_actor w event name actor now (takes _ _ call told has hand) = has
comes_actor w event name actor now (loses _ _ call told has hand) = has

comes_going_on : (w : World) (event : Event) (name : ℕ) (actor : Actor) (now : Talk) → ComesToTalk w event name actor now → (before : List Event) → job_going_on before event ≡ job_begun name before
comes_going_on w event name actor now (begins_now _ _ has hand) before = refl
comes_going_on w event name actor now (takes _ _ call told has hand) before = refl
comes_going_on w event name actor now (loses _ _ call told has hand) before = refl

-- the same of other events
abbrev pub Still : Event → List Event → Type 0
Still event before = (name : ℕ) → job_begun name (event ∷ before) ≡ job_begun name before

all_still : (w : World) (event : Event) (before : List Event) → Still event before → AreBegun w before → AreBegun w (event ∷ before)
all_still w event before still begun name actor is = let was = begun name actor is in (still name ∙ was.0, was.1)

-- the job of an event by which an actor begins can begin
abbrev pub CanHappen : Event → Type 0
CanHappen (begin name job) = CanBegin job
CanHappen event = Unit {0}

-- Each actor does the job that it began last, behind one more event too.
begun_more : (w : World) (event : Event) (told : Option (Job × Outcome)) (later : World) (before : List Event) → AreBegun w before → CanHappen event → Happens w event told later → AreBegun later (event ∷ before)
begun_more w event told later before begun can (begins name job began known can_begin same borne) =
    one_begun w name (Some (record { job = job; begun = began; before = known; talk = []; hand = fresh })) before (begin name job ∷ before) begun
    (λ other apart. let differs : (other == name) ≡ false = grind (arith, nat_tests) in ap (λ (b : Bool). if b then Some job else job_begun other before) differs)
    (λ actor is. let itself : (name == name) ≡ true = grind (arith, nat_tests) in
    (ap (λ (b : Bool). if b then Some job else job_begun name before) itself ∙ ap (option_map (λ (a : Actor). a.job)) is, subst (λ (a : Actor). IsBegunAs a.job a.begun) (same_actor _ actor is) same))
begun_more w event told later before begun can (dies name) = one_begun w name None before (die name ∷ before) begun (λ other apart. refl) (λ actor is. absurd cc)
begun_more w event told later before begun can (acts name how actor call has hand) = same_begun w name actor _ before begun has refl refl
begun_more w event told later before begun can (goes_on made name actor now call comes does of_bytes) =
    all_still later event before (λ (other : ℕ). not_begun event (comes_nobody w event name actor now comes) other before)
    (same_begun w name actor (record actor { talk = now; hand = asking call }) before begun (comes_actor w event name actor now comes) refl refl)
begun_more w event told later before begun can (ends made name actor now outcome comes does) =
    all_still later event before (λ (other : ℕ). not_begun event (comes_nobody w event name actor now comes) other before)
    (same_begun w name actor (record actor { talk = now; hand = ended outcome }) before begun (comes_actor w event name actor now comes) refl refl)
begun_more w event told later before begun can (lands place put is) = λ name actor has. begun name actor has
begun_more w event told later before begun can (nothing_happens made unfit) = all_still w event before (λ (name : ℕ). not_begun event (nobody event can unfit) name before) begun
  where
    nobody : (event : Event) → CanHappen event → (FitsWorld w event → ⊥) → BeginsNobody event
    nobody (begin name job) can unfit = unfit can
    nobody (die name) can unfit = tt
    nobody (act name how) can unfit = tt
    nobody (answer name) can unfit = tt
    nobody (lose_answer name) can unfit = tt
    nobody (land place) can unfit = tt

none_out : (job : Option Job) → out_of job None ≡ []
none_out None = refl
none_out (Some one) = refl

-- What was told by one more event is of the job that its actor began last.
told_more : (w : World) (event : Event) (out : Option (Job × Outcome)) (later : World) (before : List Event) → AreBegun w before → Happens w event out later → (next : Option code_end.JobEnd) → TellsAs next out
    → (outs : List (Job × Outcome)) → with_told outs out ≡ outs ++ out_of (job_going_on before event) (option_map end_view next)
told_more w event out later before begun (ends made name actor now outcome comes does) (Some end) tells outs =
    let going : job_going_on before event ≡ Some actor.job = comes_going_on w event name actor now comes before ∙ (begun name actor (comes_actor w event name actor now comes)).0 in
    ap (λ (o : Outcome). outs ++ (actor.job, o) ∷ []) tells ∙ ap (λ (j : Option Job). outs ++ out_of j (Some (end_view end))) (sym going)
told_more w event out later before begun (ends made name actor now outcome comes does) None tells outs = absurd tells
told_more w event out later before begun (begins name job began known can same borne) (Some end) tells outs = absurd tells
told_more w event out later before begun (dies name) (Some end) tells outs = absurd tells
told_more w event out later before begun (acts name how actor call has hand) (Some end) tells outs = absurd tells
told_more w event out later before begun (goes_on made name actor now call comes does of_bytes) (Some end) tells outs = absurd tells
told_more w event out later before begun (lands place put is) (Some end) tells outs = absurd tells
told_more w event out later before begun (nothing_happens made unfit) (Some end) tells outs = absurd tells
told_more w event out later before begun happens None tells outs = by_out out tells
  where
    by_out : (o : Option (Job × Outcome)) → TellsAs None o → with_told outs o ≡ outs ++ out_of (job_going_on before event) None
    by_out None is = sym (append-nil outs) ∙ ap (λ (os : List (Job × Outcome)). outs ++ os) (sym (none_out (job_going_on before event)))
    by_out (Some one) is = absurd is

-- what a session tells is of its job's kind
kind_so : (job : Job) (outcome : Outcome) (before talk : Talk) → Ends job before talk outcome → IsOfKind job outcome
kind_so (creates job) (creation told) before talk is = tt
kind_so (creates job) (load told) before talk is = is
kind_so (creates job) (checkpoint told) before talk is = is
kind_so (creates job) (stream told) before talk is = is
kind_so (creates job) (read told) before talk is = is
kind_so (loads job) (creation told) before talk is = is
kind_so (loads job) (load told) before talk is = tt
kind_so (loads job) (checkpoint told) before talk is = is
kind_so (loads job) (stream told) before talk is = is
kind_so (loads job) (read told) before talk is = is
kind_so (checkpoints job) (creation told) before talk is = is
kind_so (checkpoints job) (load told) before talk is = is
kind_so (checkpoints job) (checkpoint told) before talk is = tt
kind_so (checkpoints job) (stream told) before talk is = is
kind_so (checkpoints job) (read told) before talk is = is
kind_so (streams job) (creation told) before talk is = is
kind_so (streams job) (load told) before talk is = is
kind_so (streams job) (checkpoint told) before talk is = is
kind_so (streams job) (stream told) before talk is = tt
kind_so (streams job) (read told) before talk is = is
kind_so (reads job) (creation told) before talk is = is
kind_so (reads job) (load told) before talk is = is
kind_so (reads job) (checkpoint told) before talk is = is
kind_so (reads job) (stream told) before talk is = is
kind_so (reads job) (read told) before talk is = tt

-- and of that of the same job that began with nothing known
kind_alike : (job begun : Job) (outcome : Outcome) → IsBegunAs job begun → IsOfKind begun outcome → IsOfKind job outcome
kind_alike (creates job) begun outcome same is = subst (λ (j : Job). IsOfKind j outcome) same is
kind_alike (loads job) begun outcome (how, used, same) is = loads_alike outcome (subst (λ (j : Job). IsOfKind j outcome) same is)
  where
    loads_alike : (o : Outcome) → IsOfKind (loads how) o → IsOfKind (loads job) o
    loads_alike (creation told) of = of
    loads_alike (load told) of = of
    loads_alike (checkpoint told) of = of
    loads_alike (stream told) of = of
    loads_alike (read told) of = of
kind_alike (checkpoints job) begun outcome (how, used, same) is = checkpoints_alike outcome (subst (λ (j : Job). IsOfKind j outcome) same is)
  where
    checkpoints_alike : (o : Outcome) → IsOfKind (checkpoints how) o → IsOfKind (checkpoints job) o
    checkpoints_alike (creation told) of = of
    checkpoints_alike (load told) of = of
    checkpoints_alike (checkpoint told) of = of
    checkpoints_alike (stream told) of = of
    checkpoints_alike (read told) of = of
kind_alike (streams job) begun outcome (how, used, same) is = streams_alike outcome (subst (λ (j : Job). IsOfKind j outcome) same is)
  where
    streams_alike : (o : Outcome) → IsOfKind (streams (record job { load = how })) o → IsOfKind (streams job) o
    streams_alike (creation told) of = of
    streams_alike (load told) of = of
    streams_alike (checkpoint told) of = of
    streams_alike (stream told) of = of
    streams_alike (read told) of = of
kind_alike (reads job) begun outcome (known, same) is = reads_alike outcome (subst (λ (j : Job). IsOfKind j outcome) same is)
  where
    reads_alike : (o : Outcome) → IsOfKind (reads (record job { known = known })) o → IsOfKind (reads job) o
    reads_alike (creation told) of = of
    reads_alike (load told) of = of
    reads_alike (checkpoint told) of = of
    reads_alike (stream told) of = of
    reads_alike (read told) of = of

kind_told : (job begun : Job) (outcome : Outcome) (before talk : Talk) → IsBegunAs job begun → Ends begun before talk outcome → IsOfKind job outcome
kind_told job begun outcome before talk same told = kind_alike job begun outcome same (kind_so begun outcome before talk told)

-- What was told by one more event is of a job, and of its kind.
owned_more : (w : World) (event : Event) (out : Option (Job × Outcome)) (later : World) (before : List Event) → AreBegun w before → Happens w event out later → (next : Option code_end.JobEnd) → TellsAs next out
    → IsOwned (job_going_on before event) (option_map end_view next)
owned_more w event out later before begun (ends made name actor now outcome comes does) (Some end) tells =
    let going : job_going_on before event ≡ Some actor.job = comes_going_on w event name actor now comes before ∙ (begun name actor (comes_actor w event name actor now comes)).0 in
    subst (λ (j : Option Job). IsOwned j (Some (end_view end))) (sym going) (subst (IsOfKind actor.job) tells (kind_told actor.job actor.begun outcome actor.before now (begun name actor (comes_actor w event name actor now comes)).1 does.0))
owned_more w event out later before begun (begins name job began known can same borne) (Some end) tells = absurd tells
owned_more w event out later before begun (dies name) (Some end) tells = absurd tells
owned_more w event out later before begun (acts name how actor call has hand) (Some end) tells = absurd tells
owned_more w event out later before begun (goes_on made name actor now call comes does of_bytes) (Some end) tells = absurd tells
owned_more w event out later before begun (lands place put is) (Some end) tells = absurd tells
owned_more w event out later before begun (nothing_happens made unfit) (Some end) tells = absurd tells
owned_more w event out later before begun happens None tells = tt

-- ---- events of the code

-- every job of the code can begin
pub can_begin : (job : code_job.Job) → CanBegin (job_view job)
can_begin (jobs.Create job) = (tt, refl)
can_begin (jobs.Load use_checkpoints) = (tt, refl)
can_begin (jobs.Checkpoint use_checkpoints) = (tt, refl)
can_begin (jobs.Stream job) = ((IsUtf8-string_bytes job.application, job.some), refl)
can_begin (jobs.Read place max use_checkpoints) = (tt, refl)

-- so each event of the code is one that can happen, however it is met
can_happen : (event : code_event.Event) (met : Event) → IsMetAs (event_view event) met → CanHappen met
can_happen (code_events.Begin actor job) met is = subst CanHappen (sym is) (can_begin job)
can_happen (code_events.Die actor) met is = subst CanHappen (sym is) tt
can_happen (code_events.Act actor how) met (one, is, same) = subst CanHappen (sym same) tt
can_happen (code_events.Answer actor) met is = subst CanHappen (sym is) tt
can_happen (code_events.LoseAnswer actor) met is = subst CanHappen (sym is) tt
can_happen (code_events.Land place) met is = subst CanHappen (sym is) tt

going_on_alike : (event met : Event) (before after : List Event) → IsMetAs event met → ((name : ℕ) → job_begun name before ≡ job_begun name after) → job_going_on before event ≡ job_going_on after met
going_on_alike (begin name job) met before after is same = ap (job_going_on after) (sym is)
going_on_alike (act name how) met before after (one, is, same_met) same = ap (job_going_on after) (sym same_met)
going_on_alike (die name) met before after is same = ap (job_going_on after) (sym is)
going_on_alike (answer name) met before after is same = same name ∙ ap (job_going_on after) (sym is)
going_on_alike (lose_answer name) met before after is same = same name ∙ ap (job_going_on after) (sym is)
going_on_alike (land place) met before after is same = ap (job_going_on after) (sym is)

-- What a run came to: each actor does the job that it began last, the events begin what those do that were met, and what was told is of these jobs.
record IsPaired (seen : List code_event.Event) (told : List (Option code_end.JobEnd)) (met : List Event) (outs : List (Job × Outcome)) (w : World) : Type 0 where
  counts : length told ≡ length seen
  begun : AreBegun w (latest_first [] met)
  alike : (name : ℕ) → job_begun name (latest_first [] (map event_view seen)) ≡ job_begun name (latest_first [] met)
  paired : outs ≡ outs_told [] (map event_view seen) (map (option_map end_view) told)
  owned : AreOwned [] (map event_view seen) (map (option_map end_view) told)

paired_so : (first : Objects) (seen : List code_event.Event) (told : List (Option code_end.JobEnd)) (met : List Event) (outs : List (Job × Outcome)) (was_short : Bool) (w : World)
    → AreRun (first_world first) seen told met outs was_short w → IsPaired seen told met outs w
paired_so first _ _ _ _ _ _ at_first = record { counts = refl; begun = λ name actor is. absurd cc; alike = λ name. refl; paired = refl; owned = tt }
paired_so first _ _ _ _ _ _ (then_one seen told met outs was w event next one out later run is fits tells happens begins_so) =
    let so = paired_so first seen told met outs was w run in
    let before : List Event = latest_first [] met in
    let views : List Event = map event_view seen in
    let ends_told : List (Option Outcome) = map (option_map end_view) told in
    let view : Event = event_view event in
    let views_more : map event_view (seen ++ event ∷ []) ≡ views ++ view ∷ [] = map-append event_view seen (event ∷ []) in
    let told_more_views : map (option_map end_view) (told ++ next ∷ []) ≡ ends_told ++ option_map end_view next ∷ [] = map-append (option_map end_view) told (next ∷ []) in
    let same_length : length ends_told ≡ length views = length-map told (option_map end_view) ∙ (so.counts ∙ sym (length-map seen event_view)) in
    let latest_met : latest_first [] (met ++ one ∷ []) ≡ one ∷ before = latest_push [] met one in
    let latest_views : latest_first [] (map event_view (seen ++ event ∷ [])) ≡ view ∷ latest_first [] views = ap (latest_first []) views_more ∙ latest_push [] views view in
    record {
      counts = length_push told next ∙ (ap (λ (n : ℕ). n + 1) so.counts ∙ sym (length_push seen event));
      begun = subst (AreBegun later) (sym latest_met) (begun_more w one out later before so.begun (can_happen event one is) happens);
      alike = λ name. ap (job_begun name) latest_views ∙ (begun_alike name view one (latest_first [] views) before is (so.alike name) ∙ ap (job_begun name) (sym latest_met));
      owned =
          subst (λ (es : List Event). AreOwned [] es (map (option_map end_view) (told ++ next ∷ []))) (sym views_more)
          (subst (AreOwned [] (views ++ view ∷ [])) (sym told_more_views)
          (owned_push [] views ends_told view (option_map end_view next) same_length so.owned
          (subst (λ (j : Option Job). IsOwned j (option_map end_view next)) (sym (going_on_alike view one (latest_first [] views) before is so.alike)) (owned_more w one out later before so.begun happens next tells))));
      paired =
          told_more w one out later before so.begun happens next tells outs
          ∙ (ap (λ (os : List (Job × Outcome)). os ++ out_of (job_going_on before one) (option_map end_view next)) so.paired
          ∙ (ap (λ (j : Option Job). outs_told [] views ends_told ++ out_of j (option_map end_view next)) (sym (going_on_alike view one (latest_first [] views) before is so.alike))
          ∙ (sym (outs_push [] views ends_told view (option_map end_view next) same_length)
          ∙ (ap (λ (es : List Event). outs_told [] es (ends_told ++ option_map end_view next ∷ [])) (sym views_more)
          ∙ ap (outs_told [] (map event_view (seen ++ event ∷ []))) (sym told_more_views)))));
    }

-- ---- what was handed in

none_in : {A : Type 0} (x : A) → Contains [] x → ⊥
none_in x has = omega (arith, has.1)

-- what was begun by the events that were met was begun by those that were handed in
begun_event : (name : ℕ) (job : Job) (event : code_event.Event) (met : Event) → IsMetAs (event_view event) met → met ≡ begin name job → event_view event ≡ begin name job
begun_event name job (code_events.Begin actor one) met is same = sym is ∙ same
begun_event name job (code_events.Die actor) met is same = sym is ∙ same
begun_event name job (code_events.Act actor how) met (one, is, same_met) same = let no : act actor one ≡ begin name job = sym same_met ∙ same in absurd cc
begun_event name job (code_events.Answer actor) met is same = sym is ∙ same
begun_event name job (code_events.LoseAnswer actor) met is same = sym is ∙ same
begun_event name job (code_events.Land place) met is same = sym is ∙ same

handed_in : (first : World) (seen : List code_event.Event) (told : List (Option code_end.JobEnd)) (met : List Event) (outs : List (Job × Outcome)) (was_short : Bool) (w : World) → AreRun first seen told met outs was_short w
    → (name : ℕ) (job : Job) → Contains met (begin name job) → Contains (map event_view seen) (begin name job)
handed_in first _ _ _ _ _ _ at_first name job has = absurd (none_in (begin name job) has)
handed_in first _ _ _ _ _ _ (then_one seen told met outs was w event next one out later run is fits tells happens begins_so) name job has =
    subst (λ (es : List Event). Contains es (begin name job)) (sym (map-append event_view seen (event ∷ []))) (by_place (λ there. handed_in first seen told met outs was w run name job there) (Contains-push_cases met one (begin name job) has))
  where
    by_place : (Contains met (begin name job) → Contains (map event_view seen) (begin name job)) → Contains met (begin name job) ⊎ (one ≡ begin name job) → Contains (map event_view seen ++ event_view event ∷ []) (begin name job)
    by_place before (inl there) = Contains-append_left (map event_view seen) (event_view event ∷ []) (begin name job) (before there)
    by_place before (inr now) = subst (λ (e : Event). Contains (map event_view seen ++ e ∷ []) (begin name job)) (sym (begun_event name job event one is now)) (Contains-push (map event_view seen) (begin name job))

-- the headline of events by which no more was handed in is that of those by which these jobs were, too
pub headline_of_more : (met events : List Event) (outs : List (Job × Outcome)) (schema : Schema) (entries : List Entry) → ((job : Job) → WasBegun met job → WasBegun events job)
    → IsHeadline met outs schema entries → IsHeadline events outs schema entries
headline_of_more met events outs schema entries handed headline = record {
  created = created_by entries headline.created;
  once = headline.once;
  lawful = headline.lawful;
  acknowledged = λ item answer was acknowledges. let one = headline.acknowledged item answer was acknowledges in (item_handed item one.0, one.1, one.2, one.3);
  submitted = λ b has. let one = headline.submitted b has in (one.0, item_handed one.0 one.1, one.2);
  told = headline.told;
  parts = headline.parts;
  handed = headline.handed;
}
  where
    item_handed : (item : _) → Submitted met item → Submitted events item
    item_handed item (job, begun, has) = (job, handed job begun, has)

    created_by : (those : List Entry) → WasCreated met schema those → WasCreated events schema those
    created_by [] created = tt
    created_by (first ∷ rest) (job, begun, reads_as) = (job, handed (creates job) begun, reads_as)

module _ {S : Type 0} (objects : S → Objects) (first : Objects) (seen : List code_event.Event) (told : List (Option code_end.JobEnd)) (world : code_world.World S) (was : HasRun objects first seen told world) (may : IsFirstStore first) where
  of_world : IsWorldOf was.met was.outs was.w
  of_world = (first, may, ran_so (first_world first) seen told was.met was.outs world.is_short was.w was.ran)

  was_begun : (job : Job) → WasBegun was.met job → WasBegun (map event_view seen) job
  was_begun job (can, name, has) = (can, name, handed_in (first_world first) seen told was.met was.outs world.is_short was.w was.ran name job has)

  -- The store that events over a first one left is sound, as it is in every world.
  pub sound_so : ((met : List Event) (outs : List (Job × Outcome)) (w : World) → IsWorldOf met outs w → IsSoundStore w.objects) → IsSoundStore (objects world.store.store)
  sound_so sound = subst IsSoundStore was.stands.objects (sound was.met was.outs was.w of_world)

  -- What was told by them is so of the table that it holds.
  pub told_so : ((met : List Event) (outs : List (Job × Outcome)) (w : World) → IsWorldOf met outs w → (schema : Schema) (entries : List Entry) → Holds w.objects schema entries → IsHeadline met outs schema entries)
      → AreEventsSo (map event_view seen) (map (option_map end_view) told) (objects world.store.store)
  told_so headline =
      let so = paired_so first seen told was.met was.outs world.is_short was.w was.ran in
      record {
        owned = so.owned;
        headline = λ schema entries holds.
            headline_of_more was.met (map event_view seen) _ schema entries was_begun
            (subst (λ (os : List (Job × Outcome)). IsHeadline was.met os schema entries) so.paired
            (headline was.met was.outs was.w of_world schema entries (subst (λ (o : Objects). Holds o schema entries) (sym was.stands.objects) holds)));
      }
