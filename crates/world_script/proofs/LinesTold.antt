-- What lines tell that are played, read off them and their replies.
use Rattle.std.proofs.Common.{◌≡◌, ◌∙◌, ◌⊎◌, ℕ, List, [], ◌∷◌, ◌++◌, Bool, true, false, Contains, Option, Some, None, refl, sym, ap, subst, inl, inr, ⊎_elim}
use Rattle.std.proofs.lemmas.Bool.{cases_eq}
use Rattle.std.proofs.lemmas.List.Elements.{Contains-append_cases, Contains-append_left, Contains-append_right, Contains-push_cases}
use Rattle.lake_script.specs.LineJobs.{job_of_line, job_of_task}
use Rattle.script_lines.specs.Lines as lines
use Rattle.script_lines.specs.Lines.{Statement, Task}
use Rattle.script_lines.specs.declared.kind.Kind.{Kind}
use Rattle.store_core.specs.Objects.{Objects}
use Rattle.store_core.specs.declared.store.Put.{Put}
use Rattle.stream_world.specs.Events.{Event, begin, die, land, with_told}
use Rattle.stream_world.specs.Standing.{landing_told}
use Rattle.table_jobs.specs.Jobs.{Job, Outcome}
use Rattle.table_store.proofs.ConflictLemmas.{Contains-first, none_contained}
use Rattle.world_script.specs.ByLines.{Begun, BeginsBehind, TellsBegun, TellsOfJobs, TellsOwn, ToldByLines, begun_ended, begun_none, begun_on, begun_refused, jobs_handed, jobs_in, last_begun, nothing_begun, nothing_told, own_ended, own_refused, own_unbegun, skipped_one, told_one}
use Rattle.world_script.specs.Lines as does
use Rattle.world_script.specs.Lines.{IsDoneToActor, IsReplyIn, Lands, LineDoes, RunsAlone, Starts, TellsOfObjects, if_refused}
use Rattle.world_script.specs.Playing as plays
use Rattle.world_script.specs.Playing.{Plays}
use Rattle.world_script.specs.Scenes.{Scene, first_scene, next_behind_part, part_for}
use Rattle.world_script.specs.declared.named.Deed.{Deed}
use Rattle.world_script.specs.declared.named.Deed.TheVariants as deeds
use Rattle.world_script.proofs.AsBegun.{IsAsBegun, first_begun, in_world, its_number, last_now, last_still, with_part, with_same}
use Rattle.world_script.proofs.Keeping.{AreHanded, AreStepsOf, HasBegun, begun_by, deed_of, gone_by, job_there, one_step, through_of}

-- ---- what was handed in

none_handed : (jobs : List Job) → AreHanded [] jobs
none_handed jobs name job has = absurd (none_contained (begin name job) has)

-- by events by which nobody began no more was
more_handed : (seen : List Event) (jobs : List Job) → AreHanded seen [] → AreHanded seen jobs
more_handed seen jobs nobody name job has = absurd (none_contained job (nobody name job has))

-- by the beginning of a job, that one was
one_handed : (n : ℕ) (one : Job) (jobs : Option Job) → jobs ≡ Some one → AreHanded (begin n one ∷ []) (jobs_in jobs)
one_handed n one jobs is name job has = ⊎_elim (λ none. absurd (none_contained (begin name job) none)) of_it (Contains-push_cases [] (begin n one) (begin name job) has)
  where
    of_it : begin n one ≡ begin name job → Contains (jobs_in jobs) job
    of_it same =
        let same_job : one ≡ job = cc in
        subst (λ (o : Option Job). Contains (jobs_in o) job) (sym is) (subst (λ (j : Job). Contains (one ∷ []) j) same_job (Contains-first one []))

both_handed : (seen more : List Event) (jobs others : List Job) → AreHanded seen jobs → AreHanded more others → AreHanded (seen ++ more) (jobs ++ others)
both_handed seen more jobs others first then_so name job has =
    ⊎_elim (λ there. Contains-append_left jobs others job (first name job there)) (λ there. Contains-append_right jobs others job (then_so name job there)) (Contains-append_cases seen more (begin name job) has)

-- ---- one line

-- What is so behind a line, of which these jobs were begun before: of the scene, of what it told, and of the job that
-- it handed in.
pub record LineTells (uses : Bool) (statement : Statement) (b : Begun) (seen : List Event) (outs : List (Job × Outcome)) (reply : List ℕ) (later : Scene) : Type 0 where
  pub now : Begun
  pub as_begun : IsAsBegun uses later now
  pub tells : TellsOfJobs uses b statement reply outs
  pub begins : BeginsBehind uses statement reply b now
  pub handed : AreHanded seen (jobs_handed uses b.tries statement)

-- of a line with a job of its own
record OwnTells (uses : Bool) (statement : Statement) (b : Begun) (seen : List Event) (outs : List (Job × Outcome)) (reply : List ℕ) (later : Scene) : Type 0 where
  as_begun : IsAsBegun uses later b
  tells : TellsOwn uses b.tries statement reply outs
  handed : AreHanded seen (jobs_in (job_of_line uses b.tries statement))

-- of one that names an actor
record NamedTells (uses : Bool) (name : List ℕ) (b : Begun) (seen : List Event) (outs : List (Job × Outcome)) (reply : List ℕ) (later : Scene) : Type 0 where
  as_begun : IsAsBegun uses later b
  tells : TellsBegun b.jobs name reply outs
  nobody : AreHanded seen []

module _ (uses : Bool) (s : Scene) (b : Begun) (so : IsAsBegun uses s b) where
  own_tells : (statement : Statement) (job : Option Job) (seen : List Event) (outs : List (Job × Outcome)) (reply : List ℕ) (later : Scene) → job_of_line uses b.tries statement ≡ job → RunsAlone s statement job seen outs reply later
      → OwnTells uses statement b seen outs reply later
  own_tells statement job _ _ _ _ of (does.runs one mid seen told left w reply is can began leads replied) = record {
    as_begun = in_world uses s b so w left (λ n other there. ⊎_elim (λ now. inl now.0) (λ was. inr was.1) (begun n other (steps.keeps n other there)));
    tells = own_ended told.0 told.1 reply (of ∙ (is ∙ ap (λ (j : Job). Some j) same_job)) replied;
    handed = subst (λ (js : List Job). AreHanded (begin 0 one ∷ seen) js) (one_only (job_of_line uses b.tries statement) (of ∙ is)) (both_handed (begin 0 one ∷ []) seen (one ∷ []) [] (one_handed 0 one (Some one) refl) steps.nobody);
  }
    where
      begun : HasBegun 0 one s.world mid
      begun = begun_by s.world 0 one (begin 0 one) None mid refl can began

      steps : AreStepsOf 0 mid seen (Some told) w
      steps = through_of 0 s.fault mid seen told left w leads

      same_job : one ≡ told.0
      same_job = ⊎_elim (λ now. now.1) (λ was. absurd (was.0 refl)) (begun 0 told.0 (steps.of_job told refl))

      one_only : (found : Option Job) → found ≡ Some one → one ∷ [] ≡ jobs_in found
      one_only found found_is = ap jobs_in (sym found_is)
  own_tells statement job _ _ _ _ of (does.is_refused none) = record { as_begun = so; tells = own_refused (of ∙ none); handed = none_handed _ }
  own_tells statement job _ _ _ _ of (does.finds_no_room reply wants) = record { as_begun = so; tells = own_unbegun reply wants; handed = none_handed _ }

  -- what was told of the job of an actor's part
  told_begun : (name : List ℕ) (told : Option (Job × Outcome)) (reply : List ℕ) → ((one : Job × Outcome) → told ≡ Some one → last_begun name b.jobs ≡ Some one.0) → IsReplyIn told reply → TellsBegun b.jobs name reply (with_told [] told)
  told_begun name None reply of is = subst (λ (r : List ℕ). TellsBegun b.jobs name r []) (sym is) begun_on
  told_begun name (Some one) reply of is = begun_ended one.0 one.1 reply (of one refl) is

  refused_begun : (name : List ℕ) (deed : Deed) → TellsBegun b.jobs name (if_refused deed) []
  refused_begun name deeds.Until = begun_refused
  refused_begun name (deeds.Step kind) = begun_refused
  refused_begun name deeds.Finish = begun_refused
  refused_begun name deeds.Die = begun_on

  named_tells : (name : List ℕ) (deed : Deed) (seen : List Event) (outs : List (Job × Outcome)) (reply : List ℕ) (later : Scene) → IsDoneToActor s name deed seen outs reply later → NamedTells uses name b seen outs reply later
  named_tells name deed _ _ _ _ (does.unknown none) = record { as_begun = so; tells = begun_none; nobody = none_handed [] }
  named_tells name deed _ _ _ _ (does.gone part there fine none) = record { as_begun = so; tells = begun_none; nobody = none_handed [] }
  named_tells name deed _ _ _ _ (does.refuses part later there was now) = record {
    as_begun = with_same uses s b so name later (record part { is_refused = false }) s.next s.world (its_number uses s b so name (Some part) there) now refl;
    tells = refused_begun name deed;
    nobody = none_handed [];
  }
  named_tells name deed _ _ _ _ (does.does_it part seen told w reply there fine alive done replied) =
      let steps = deed_of deed part.number s.world seen told w done in
      record {
        as_begun = in_world uses s b so w s.fault (λ n job is. inr (steps.keeps n job is));
        tells = told_begun name told reply (λ one is. so.begun name part one.0 there (steps.of_job one is)) replied;
        nobody = steps.nobody;
      }

  start_tells : (name : List ℕ) (job : Task) (seen : List Event) (reply : List ℕ) (later : Scene) → Starts s name (job_of_task uses b.tries job) seen reply later → LineTells uses (lines.world (lines.start name job)) b seen [] reply later
  start_tells name job _ _ _ (does.starts one w later is can happens anew_there now) = record {
    now = record { tries = b.tries; jobs = (name, job_of_task uses b.tries job) ∷ b.jobs };
    as_begun = with_part uses s b so name later (record (part_for (s.part name) s.next) { is_refused = false }) (next_behind_part (s.part name) s.next) w (its_number uses s b so name (s.part name) refl) now
        ((name, job_of_task uses b.tries job) ∷ b.jobs) (λ other apart. last_still name other (job_of_task uses b.tries job) b.jobs apart) from;
    tells = (refl, inl refl);
    begins = refl;
    handed = one_handed (part_for (s.part name) s.next).number one (job_of_task uses b.tries job) is;
  }
    where
      from : (n : ℕ) (other : Job) → job_there w n ≡ Some other
          → ((n ≡ (part_for (s.part name) s.next).number) × (last_begun name ((name, job_of_task uses b.tries job) ∷ b.jobs) ≡ Some other)) ⊎ ((n ≡ (part_for (s.part name) s.next).number → ⊥) × (job_there s.world n ≡ Some other))
      from n other there =
          ⊎_elim (λ begun. inl (begun.0, last_now name (job_of_task uses b.tries job) b.jobs ∙ (is ∙ ap (λ (j : Job). Some j) begun.1))) inr
          (begun_by s.world (part_for (s.part name) s.next).number one (begin (part_for (s.part name) s.next).number one) None w refl can happens n other there)
  start_tells name job _ _ _ (does.refuses_it w later is happens now) = record {
    now = record { tries = b.tries; jobs = (name, job_of_task uses b.tries job) ∷ b.jobs };
    as_begun = with_part uses s b so name later (record (part_for (s.part name) s.next) { is_refused = true }) (next_behind_part (s.part name) s.next) w (its_number uses s b so name (s.part name) refl) now
        ((name, job_of_task uses b.tries job) ∷ b.jobs) (λ other apart. last_still name other (job_of_task uses b.tries job) b.jobs apart) from;
    tells = (refl, inl refl);
    begins = refl;
    handed = more_handed (die number ∷ []) _ died.nobody;
  }
    where
      number : ℕ
      number = (part_for (s.part name) s.next).number

      died : AreStepsOf number s.world (die number ∷ []) None w
      died = one_step number s.world (die number) None w refl happens

      from : (n : ℕ) (other : Job) → job_there w n ≡ Some other
          → ((n ≡ number) × (last_begun name ((name, job_of_task uses b.tries job) ∷ b.jobs) ≡ Some other)) ⊎ ((n ≡ number → ⊥) × (job_there s.world n ≡ Some other))
      from n other there = ⊎_elim (λ same. absurd (none_there same)) (λ apart. inr (apart, died.keeps n other there)) (cases_eq n number)
        where
          none_there : n ≡ number → ⊥
          none_there same =
              let wrong : None ≡ Some other = sym (gone_by s.world number (die number) None w refl happens) ∙ subst (λ (k : ℕ). job_there w k ≡ Some other) same there in
              cc
  start_tells name job _ _ _ does.has_no_room = record { now = b; as_begun = so; tells = (refl, inr refl); begins = refl; handed = none_handed _ }
  start_tells name job _ _ _ (does.has_no_room_for_it later now) = record {
    now = b;
    as_begun = with_same uses s b so name later (part_for (s.part name) s.next) (next_behind_part (s.part name) s.next) s.world (its_number uses s b so name (s.part name) refl) now refl;
    tells = (refl, inr refl);
    begins = refl;
    handed = none_handed _;
  }

  -- ---- lines of each kind

  of_own_create : (id : List ℕ) (at : ℕ) (schema : List ℕ) (seen : List Event) (outs : List (Job × Outcome)) (reply : List ℕ) (later : Scene) → OwnTells uses (lines.create id at schema) b seen outs reply later
      → LineTells uses (lines.create id at schema) b seen outs reply later
  of_own_create id at schema seen outs reply later own = record { now = b; as_begun = own.as_begun; tells = own.tells; begins = refl; handed = own.handed }

  of_own_task : (job : Task) (seen : List Event) (outs : List (Job × Outcome)) (reply : List ℕ) (later : Scene) → OwnTells uses (lines.task job) b seen outs reply later → LineTells uses (lines.task job) b seen outs reply later
  of_own_task job seen outs reply later own = record { now = b; as_begun = own.as_begun; tells = own.tells; begins = refl; handed = own.handed }

  of_until : (name : List ℕ) (seen : List Event) (outs : List (Job × Outcome)) (reply : List ℕ) (later : Scene) → NamedTells uses name b seen outs reply later → LineTells uses (lines.world (lines.until name)) b seen outs reply later
  of_until name seen outs reply later named = record { now = b; as_begun = named.as_begun; tells = named.tells; begins = refl; handed = named.nobody }

  of_step : (name : List ℕ) (kind : Kind) (seen : List Event) (outs : List (Job × Outcome)) (reply : List ℕ) (later : Scene) → NamedTells uses name b seen outs reply later → LineTells uses (lines.world (lines.step name kind)) b seen outs reply later
  of_step name kind seen outs reply later named = record { now = b; as_begun = named.as_begun; tells = named.tells; begins = refl; handed = named.nobody }

  of_finish : (name : List ℕ) (seen : List Event) (outs : List (Job × Outcome)) (reply : List ℕ) (later : Scene) → NamedTells uses name b seen outs reply later → LineTells uses (lines.world (lines.finish name)) b seen outs reply later
  of_finish name seen outs reply later named = record { now = b; as_begun = named.as_begun; tells = named.tells; begins = refl; handed = named.nobody }

  of_die : (name : List ℕ) (seen : List Event) (outs : List (Job × Outcome)) (reply : List ℕ) (later : Scene) → NamedTells uses name b seen outs reply later → LineTells uses (lines.world (lines.die name)) b seen outs reply later
  of_die name seen outs reply later named = record { now = b; as_begun = named.as_begun; tells = named.tells; begins = refl; handed = named.nobody }

  -- a line that tells of the objects leaves the actors as they are
  objects_begun : (statement : Statement) (reply : List ℕ) (later : Scene) → TellsOfObjects s statement reply later → IsAsBegun uses later b
  objects_begun statement _ _ (does.tells_of reply objects told looks) = in_world uses s b so (record s.world { objects = objects }) s.fault (λ n job is. inr is)

  -- so does a put in flight that takes effect
  record LandTells (seen : List Event) (later : Scene) : Type 0 where
    as_begun : IsAsBegun uses later b
    nobody : AreHanded seen []

  land_tells : (place : ℕ) (seen : List Event) (reply : List ℕ) (later : Scene) → Lands s place seen reply later → LandTells seen later
  land_tells place _ _ _ (does.lands_now w happens) =
      let steps : AreStepsOf 0 s.world (land place ∷ []) None w = one_step 0 s.world (land place) None w tt happens in
      record { as_begun = in_world uses s b so w s.fault (λ n job is. inr (steps.keeps n job is)); nobody = steps.nobody }
  land_tells place _ _ _ does.no_room_to_land = record { as_begun = so; nobody = none_handed [] }

  landing_told_so : (place : ℕ) (seen : List Event) (reply : List ℕ) (later : Scene) → Lands s place seen reply later → (reply ≡ does.no_room) ⊎ ((found : Option Put) × (reply ≡ does.landing_reply found))
  landing_told_so place _ _ _ (does.lands_now w happens) = inr (landing_told s.world place, refl)
  landing_told_so place _ _ _ does.no_room_to_land = inl refl

  -- a line by which nobody begins
  none_begins : (seen : List Event) → seen ≡ [] → AreHanded seen []
  none_begins seen none = subst (λ (es : List Event). AreHanded es []) (sym none) (none_handed [])

  with_none : (statement : Statement) (seen : List Event) (outs : List (Job × Outcome)) (reply : List ℕ) (later : Scene) → outs ≡ [] → LineTells uses statement b seen [] reply later → LineTells uses statement b seen outs reply later
  with_none statement seen outs reply later none tells = subst (λ (os : List (Job × Outcome)). LineTells uses statement b seen os reply later) (sym none) tells

  task_job : (job : Task) → job_of_task uses b.tries job ≡ job_of_task s.use_checkpoints s.tries job
  task_job job = ap (λ (u : Bool). job_of_task u b.tries job) (sym so.uses_so) ∙ ap (λ (n : ℕ). job_of_task s.use_checkpoints n job) (sym so.tries_so)

  -- what any line tells
  pub line_tells : (statement : Statement) (seen : List Event) (outs : List (Job × Outcome)) (reply : List ℕ) (later : Scene) → LineDoes statement s seen outs reply later → LineTells uses statement b seen outs reply later
  line_tells (lines.create id at schema) seen outs reply later done = of_own_create id at schema seen outs reply later (own_tells (lines.create id at schema) _ seen outs reply later refl done)
  line_tells (lines.task job) seen outs reply later done = of_own_task job seen outs reply later (own_tells (lines.task job) _ seen outs reply later (task_job job) done)
  line_tells (lines.look line) seen outs reply later done = record { now = b; as_begun = objects_begun (lines.look line) reply later done.2; tells = done.1; begins = refl; handed = none_begins seen done.0 }
  line_tells (lines.foreign version action) seen outs reply later done = record { now = b; as_begun = objects_begun (lines.foreign version action) reply later done.2; tells = done.1; begins = refl; handed = none_begins seen done.0 }
  line_tells (lines.tries count) seen outs reply later done = record {
    now = record { tries = done.3.0; jobs = b.jobs };
    as_begun = subst (λ (l : Scene). IsAsBegun uses l (record { tries = done.3.0; jobs = b.jobs })) (sym done.3.2)
        (record { tries_so = refl; uses_so = so.uses_so; one_on = so.one_on; numbered = so.numbered; own = so.own; known = so.known; begun = so.begun });
    tells = (done.1, done.2);
    begins = (refl, done.3.1);
    handed = none_begins seen done.0;
  }
  line_tells (lines.world (lines.start name job)) seen outs reply later done =
      with_none (lines.world (lines.start name job)) seen outs reply later done.0 (start_tells name job seen reply later (subst (λ (j : Option Job). Starts s name j seen reply later) (sym (task_job job)) done.1))
  line_tells (lines.world (lines.until name)) seen outs reply later done = of_until name seen outs reply later (named_tells name _ seen outs reply later done)
  line_tells (lines.world (lines.step name kind)) seen outs reply later done = of_step name kind seen outs reply later (named_tells name _ seen outs reply later done)
  line_tells (lines.world (lines.finish name)) seen outs reply later done = of_finish name seen outs reply later (named_tells name _ seen outs reply later done)
  line_tells (lines.world (lines.die name)) seen outs reply later done = of_die name seen outs reply later (named_tells name _ seen outs reply later done)
  line_tells (lines.world (lines.land place)) seen outs reply later done =
      let landed = land_tells place seen reply later done.1 in
      record { now = b; as_begun = landed.as_begun; tells = (done.0, landing_told_so place seen reply later done.1); begins = refl; handed = landed.nobody }
  line_tells (lines.world (lines.fault kind)) seen outs reply later done = record {
    now = b;
    as_begun = subst (λ (l : Scene). IsAsBegun uses l b) (sym done.3) (in_world uses s b so s.world (Some kind) (λ n job is. inr is));
    tells = (done.1, done.2);
    begins = refl;
    handed = none_begins seen done.0;
  }

-- ---- lines that follow one another

-- What lines told that were played: what they set, the jobs that they handed in, and what is so of the scene.
pub record LinesTell (uses : Bool) (those : List (List ℕ)) (written : List ℕ) (seen : List Event) (outs : List (Job × Outcome)) (s : Scene) : Type 0 where
  pub b : Begun
  pub handed : List Job
  pub told : ToldByLines uses those written b handed outs
  pub as_begun : IsAsBegun uses s b
  pub are_handed : AreHanded seen handed

pub lines_tell : (objects : Objects) (uses : Bool) (those : List (List ℕ)) (written : List ℕ) (seen : List Event) (outs : List (Job × Outcome)) (short : Bool) (s : Scene) → Plays (first_scene objects uses) those written seen outs short s
    → LinesTell uses those written seen outs s
lines_tell objects uses _ _ _ _ _ _ plays.at_first = record { b = nothing_begun; handed = []; told = nothing_told; as_begun = first_begun objects uses; are_handed = none_handed [] }
lines_tell objects uses _ _ _ _ _ _ (plays.skips_one those line written seen outs short s played is) =
    let so = lines_tell objects uses those written seen outs short s played in
    record { b = so.b; handed = so.handed; told = skipped_one those line written so.b so.handed outs so.told is; as_begun = so.as_begun; are_handed = so.are_handed }
lines_tell objects uses _ _ _ _ _ _ (plays.plays_one those line written seen outs short s statement more told reply falls later played is done fell) =
    let so = lines_tell objects uses those written seen outs short s played in
    let one = line_tells uses s so.b so.as_begun statement more told reply later done in
    record {
      b = one.now;
      handed = so.handed ++ jobs_handed uses so.b.tries statement;
      told = told_one those line written so.b so.handed outs statement reply told one.now so.told is one.tells one.begins;
      as_begun = one.as_begun;
      are_handed = both_handed seen more so.handed (jobs_handed uses so.b.tries statement) so.are_handed one.handed;
    }
