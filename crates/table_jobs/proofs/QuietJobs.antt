-- What a job tells and leaves whose session was driven over a store that loses no call.
use Rattle.std.proofs.Common.{◌≡◌, ◌≢◌, ◌≤◌, ◌<◌, ◌^◌, ◌∙◌, ℕ, [], Bool, true, false, None, Result, Ok, Err, refl, sym, ap, subst}
use Rattle.std.specs.Prelude.{List, string_bytes}
use Rattle.std.specs.Str.{IsUtf8}
use Rattle.std.proofs.lemmas.Str.{IsUtf8-string_bytes}
use Rattle.serde_json.specs.Data.{Items}
use Rattle.store_core.specs.Objects.{Objects}
use Rattle.session_core.specs.Sessions.{AllAsked, Drives}
use Rattle.session_core.specs.Stores.{State}
use Rattle.session_core.specs.Talks.{Asked, Talk, has_lost}
use Rattle.session_core.proofs.Callers.{all_got, exact_never_lost, got_borne}
use Rattle.table_log.specs.LoadSessions.{LoadAsks, LoadEnds, LoadJob, is_lost_load, load_job}
use Rattle.table_log.specs.declared.fault.LogFault.{LogFault}
use Rattle.table_log.specs.declared.loading.Loaded.{Loaded}
use Rattle.table_log.proofs.LoadTalks.{load_never_lost, load_refused, load_told, load_untouched}
use Rattle.commit_core.specs.CreateSessions.{CreateAsks, CreateEnds, CreateJob, creation_tells_lost}
use Rattle.commit_core.specs.declared.fault.CreateFault.{CreateFault}
use Rattle.commit_core.specs.declared.fault.CreateFault.TheVariants as creations
use Rattle.commit_core.proofs.CreationTalks.{creates, refused_leaves}
use Rattle.sink_core.specs.SinkSessions.{SinkAsks, SinkEnds, SinkJob, SinkTask, append_job, appends, close_job, closes, is_lost_end}
use Rattle.sink_core.specs.declared.sink_state.SinkEnd.{SinkEnd}
use Rattle.sink_core.proofs.Driven.{driven_never_lost}
use Rattle.sink_core.proofs.DrivenAppend.{appended}
use Rattle.sink_core.proofs.DrivenClose.{closed_so}
use Rattle.snapshot_core.specs.CheckpointSessions.{CheckpointAsks, CheckpointEnds, is_lost_checkpoint}
use Rattle.snapshot_core.specs.declared.fault.SnapshotFault.{SnapshotFault}
use Rattle.snapshot_core.proofs.CheckpointTalks.{put_never_lost, put_refused, put_untouched, was_put}
use Rattle.source_core.specs.SourceSessions.{SourceAsks, SourceEnds, SourceJob, is_lost_read}
use Rattle.source_core.specs.declared.source_session.ReadEnd.{ReadEnd}
use Rattle.source_core.proofs.SourceTalks.{read_gives, read_never_lost, read_untouched}
use Rattle.table_jobs.specs.Done.{IsAppended, IsCheckpointed, IsClosed, IsCreationDone, IsJobDone, IsLoadDone, IsReadDone, IsTaskDone}
use Rattle.table_jobs.specs.Jobs.{Asks, Ends, Job, is_lost_outcome}
use Rattle.table_jobs.specs.Jobs as kinds
use Rattle.table_jobs.specs.Sessions.{end_view}
use Rattle.table_jobs.specs.Views.{job_view, with_known}
use Rattle.log_reading.specs.declared.log_cache.LogCache.{LogCache}
use Rattle.table_jobs.specs.declared.job.Job as code
use Rattle.table_jobs.specs.declared.job.Job.TheVariants as jobs
use Rattle.table_jobs.specs.declared.job_session.JobEnd as code_end
use Rattle.table_jobs.specs.declared.job_session.JobEnd.TheVariants as ends

-- what the session of a job was driven by, in the words of its kind
pub same_drive : {J O K P : Type 0} (makes : Talk → Type 0) (is_reliable : Type 0) (asks : J → (before talk : Talk) → Asked → Type 0) (ends : J → (before talk : Talk) → O → Type 0) (lost : O → Bool)
    (own_asks : K → (before talk : Talk) → Asked → Type 0) (own_ends : K → (before talk : Talk) → P → Type 0) (own_lost : P → Bool) (job : J) (own : K) (most : ℕ) (before : Talk) (outcome : O) (told : P) (old new : State) (faults later : ℕ)
    → (driven : Drives asks ends lost makes is_reliable job most before outcome old new faults later) → AllAsked (own_asks own before) [] driven.talk → own_ends own before driven.talk told → own_lost told ≡ has_lost driven.talk
    → Drives own_asks own_ends own_lost makes is_reliable own most before told old new faults later
same_drive makes is_reliable asks ends lost own_asks own_ends own_lost job own most before outcome told old new faults later driven asked ended heard = record {
  talk = driven.talk;
  talked = driven.talked;
  called = driven.called;
  exact = driven.exact;
  asked = asked;
  ended = ended;
  borne = driven.borne;
  still_borne = driven.still_borne;
  counted = driven.counted;
  told = heard;
  few = driven.few;
}

-- An append or a close loads the log, and begins with what was loaded before.
abbrev pub BeginsKnown : SinkJob → Type 0
BeginsKnown job = (known : Loaded) × (job ≡ record job { load = load_job job.load.use_checkpoints known; loads = true })

-- what the laws ask of a job: an application's id is text, a version is tried at least, and the moment is below 2^63, as each job of the code has it
abbrev pub IsRunnable : Job → Type 0
IsRunnable (kinds.streams job) = IsUtf8 job.application × (1 ≤ job.tries) × (job.at < 2 ^ 63) × ((end : SinkEnd) → BeginsKnown job)
IsRunnable job = Unit {0}

-- what the session of a job was driven by over a store of which each object was got before
abbrev pub DrivesJob : (makes : Talk → Type 0) (is_reliable : Type 0) (job : Job) (most : ℕ) (end : code_end.JobEnd) (old new : State) (count later : ℕ) → Type 0
DrivesJob makes is_reliable job most end old new count later =
    Drives Asks (λ job before talk outcome. Ends job before talk (end_view outcome)) (λ outcome. is_lost_outcome (end_view outcome)) makes is_reliable job most (all_got old.0 old.0) end old new count later

module _ (makes : Talk → Type 0) (is_reliable : Type 0) (is : is_reliable) (most : ℕ) (old new : State) (count later : ℕ) where
  -- ---- an append and a close

  append_so : (application : List ℕ) (number : ℕ) (items : Items) (at tries : ℕ) (use_checkpoints : Bool) (known : Loaded) (end : SinkEnd) → 1 ≤ tries → IsUtf8 application → at < 2 ^ 63
      → Drives SinkAsks SinkEnds is_lost_end makes is_reliable (append_job application number items at tries use_checkpoints known) most (all_got old.0 old.0) end old new count later → IsAppended use_checkpoints application number at items old.0 new.0 end.answer
  append_so application number items at tries use_checkpoints known end some utf8 small driven =
      let job = append_job application number items at tries use_checkpoints known in
      let before = all_got old.0 old.0 in
      let bears = got_borne old.0 in
      let never = driven_never_lost job makes is_reliable most before end.known end.answer old new count later bears driven is in
      let after = appended application number items at tries use_checkpoints known before old bears some utf8 small new driven.talk (driven.exact is) driven.talked driven.asked end.answer never driven.ended.answer in
      record { told = after.told; left = after.left; short = after.short; well_put = after.well_put; grows = after.grows; unlost = never }

  close_so : (application : List ℕ) (at tries : ℕ) (use_checkpoints : Bool) (known : Loaded) (end : SinkEnd) → 1 ≤ tries
      → Drives SinkAsks SinkEnds is_lost_end makes is_reliable (close_job application at tries use_checkpoints known) most (all_got old.0 old.0) end old new count later → IsClosed use_checkpoints application at old.0 new.0 end.answer
  close_so application at tries use_checkpoints known end some driven =
      let job = close_job application at tries use_checkpoints known in
      let before = all_got old.0 old.0 in
      let bears = got_borne old.0 in
      let never = driven_never_lost job makes is_reliable most before end.known end.answer old new count later bears driven is in
      let after = closed_so application at tries use_checkpoints known before old bears some new driven.talk (driven.exact is) driven.talked driven.asked end.answer never driven.ended.answer in
      record { told = after.told; left = after.left; short = after.short; well_put = after.well_put; grows = after.grows; unlost = never }

  task_so : (application : List ℕ) (task : SinkTask) (at tries : ℕ) (use_checkpoints : Bool) (known : Loaded) (end : SinkEnd) → 1 ≤ tries → IsUtf8 application → at < 2 ^ 63
      → Drives SinkAsks SinkEnds is_lost_end makes is_reliable (record { application = application; task = task; at = at; tries = tries; load = load_job use_checkpoints known; loads = true }) most (all_got old.0 old.0) end old new count later
      → IsTaskDone task (record { application = application; task = task; at = at; tries = tries; load = load_job use_checkpoints known; loads = true }) old.0 new.0 end.answer
  task_so application (appends number items) at tries use_checkpoints known end some utf8 small driven = append_so application number items at tries use_checkpoints known end some utf8 small driven
  task_so application closes at tries use_checkpoints known end some utf8 small driven = close_so application at tries use_checkpoints known end some driven

  stream_so : (job : SinkJob) (end : SinkEnd) → IsRunnable (kinds.streams job) → Drives SinkAsks SinkEnds is_lost_end makes is_reliable job most (all_got old.0 old.0) end old new count later → IsTaskDone job.task job old.0 new.0 end.answer
  stream_so job end runs driven =
      let begins : BeginsKnown job = runs.3 end in
      subst (λ (j : SinkJob). IsTaskDone job.task j old.0 new.0 end.answer) (sym begins.1)
      (task_so job.application job.task job.at job.tries job.load.use_checkpoints begins.0 end runs.1 runs.0 runs.2
      (subst (λ (j : SinkJob). Drives SinkAsks SinkEnds is_lost_end makes is_reliable j most (all_got old.0 old.0) end old new count later) begins.1 driven))

  -- ---- a checkpoint, a load, a creation and a read

  checkpoint_so : (job : LoadJob) (known : Loaded) (answer : Result ℕ SnapshotFault)
      → Drives CheckpointAsks CheckpointEnds is_lost_checkpoint makes is_reliable job most (all_got old.0 old.0) (record { known = known; answer = answer }) old new count later → IsCheckpointed job.use_checkpoints old.0 new.0 answer
  checkpoint_so job known (Ok version) driven = was_put job is_reliable most known (Ok version) old new count later driven version refl
  checkpoint_so job known (Err fault) driven =
      let never = put_never_lost job is_reliable most known (Err fault) old new count later driven is in (
        put_refused job is_reliable most known (Err fault) old new count later driven fault refl,
        put_untouched job is_reliable most known (Err fault) old new count later driven never fault refl,
        (λ lost. never (ap (λ (f : SnapshotFault). Err f) lost)),
      )

  load_so : (job : LoadJob) (outcome : Result Loaded LogFault) → Drives LoadAsks LoadEnds is_lost_load makes is_reliable job most (all_got old.0 old.0) outcome old new count later → IsLoadDone job.use_checkpoints old.0 new.0 outcome
  load_so job (Ok loaded) driven = (load_told job is_reliable most (Ok loaded) old new count later driven loaded refl, (load_untouched job is_reliable most (Ok loaded) old new count later driven).0)
  load_so job (Err fault) driven = (
    load_refused job is_reliable most (Err fault) old new count later driven fault refl,
    (load_untouched job is_reliable most (Err fault) old new count later driven).0,
    (λ lost. load_never_lost job is_reliable most (Err fault) old new count later driven is (ap (λ (f : LogFault). Err f) lost)),
  )

  create_so : (job : CreateJob) (before : Talk) (outcome : Result (Unit {0}) CreateFault)
      → Drives CreateAsks CreateEnds creation_tells_lost makes is_reliable job most before outcome old new count later → IsCreationDone job.id job.at job.schema old.0 new.0 outcome
  create_so job before outcome driven = (
    creates job old new driven.talk (Unit {0}) (λ u. driven.exact is) outcome driven.ended driven.talked,
    refused_leaves job old new driven.talk (Unit {0}) (λ u. driven.exact is) outcome driven.ended tt,
    never,
  )
    where
      never : outcome ≢ Err creations.Lost
      never lost =
          let none : has_lost driven.talk ≡ false = exact_never_lost old new driven.talk (driven.exact is) in
          let some : has_lost driven.talk ≡ true = sym driven.told ∙ ap creation_tells_lost lost in
          cc

  read_so : (job : SourceJob) (end : ReadEnd) → Drives SourceAsks SourceEnds is_lost_read makes is_reliable job most (all_got old.0 old.0) end old new count later → IsReadDone job old.0 new.0 end
  read_so job end driven = record {
    told = read_gives job makes is_reliable most end.known end.file end.answer old new count later driven;
    same = (read_untouched job makes is_reliable most end.known end.file end.answer old new count later driven).0;
    unlost = read_never_lost job makes is_reliable most end.known end.file end.answer old new count later driven is;
  }

  -- ---- any job

  -- What a job tells whose session was driven so is what its rules say of the objects, and so is what it leaves.
  pub run_quietly : (job : Job) (end : code_end.JobEnd) → IsRunnable job → DrivesJob makes is_reliable job most end old new count later → IsJobDone job old.0 new.0 (end_view end)
  run_quietly (kinds.creates job) (ends.Created answer) runs driven = create_so job _ answer (same_drive makes is_reliable Asks _ _ CreateAsks CreateEnds creation_tells_lost _ job most _ _ answer old new count later driven driven.asked driven.ended driven.told)
  run_quietly (kinds.loads job) (ends.Loaded result) runs driven = load_so job result (same_drive makes is_reliable Asks _ _ LoadAsks LoadEnds is_lost_load _ job most _ _ result old new count later driven driven.asked driven.ended driven.told)
  run_quietly (kinds.checkpoints job) (ends.Checkpointed end) runs driven =
      checkpoint_so job end.known end.answer (same_drive makes is_reliable Asks _ _ CheckpointAsks CheckpointEnds is_lost_checkpoint _ job most _ _ end old new count later driven driven.asked driven.ended driven.told)
  run_quietly (kinds.streams job) (ends.Streamed end) runs driven =
      stream_so job end runs (same_drive makes is_reliable Asks _ _ SinkAsks SinkEnds is_lost_end _ job most _ _ end old new count later driven driven.asked driven.ended driven.told)
  run_quietly (kinds.reads job) (ends.Read end) runs driven = read_so job end (same_drive makes is_reliable Asks _ _ SourceAsks SourceEnds is_lost_read _ job most _ _ end old new count later driven driven.asked driven.ended driven.told)
  run_quietly (kinds.creates job) (ends.Loaded told) runs driven = absurd driven.ended
  run_quietly (kinds.creates job) (ends.Checkpointed told) runs driven = absurd driven.ended
  run_quietly (kinds.creates job) (ends.Streamed told) runs driven = absurd driven.ended
  run_quietly (kinds.creates job) (ends.Read told) runs driven = absurd driven.ended
  run_quietly (kinds.loads job) (ends.Created told) runs driven = absurd driven.ended
  run_quietly (kinds.loads job) (ends.Checkpointed told) runs driven = absurd driven.ended
  run_quietly (kinds.loads job) (ends.Streamed told) runs driven = absurd driven.ended
  run_quietly (kinds.loads job) (ends.Read told) runs driven = absurd driven.ended
  run_quietly (kinds.checkpoints job) (ends.Created told) runs driven = absurd driven.ended
  run_quietly (kinds.checkpoints job) (ends.Loaded told) runs driven = absurd driven.ended
  run_quietly (kinds.checkpoints job) (ends.Streamed told) runs driven = absurd driven.ended
  run_quietly (kinds.checkpoints job) (ends.Read told) runs driven = absurd driven.ended
  run_quietly (kinds.streams job) (ends.Created told) runs driven = absurd driven.ended
  run_quietly (kinds.streams job) (ends.Loaded told) runs driven = absurd driven.ended
  run_quietly (kinds.streams job) (ends.Checkpointed told) runs driven = absurd driven.ended
  run_quietly (kinds.streams job) (ends.Read told) runs driven = absurd driven.ended
  run_quietly (kinds.reads job) (ends.Created told) runs driven = absurd driven.ended
  run_quietly (kinds.reads job) (ends.Loaded told) runs driven = absurd driven.ended
  run_quietly (kinds.reads job) (ends.Checkpointed told) runs driven = absurd driven.ended
  run_quietly (kinds.reads job) (ends.Streamed told) runs driven = absurd driven.ended

-- ---- jobs of the code

-- a log of which nothing is known
abbrev knows_nothing : Loaded → Loaded
knows_nothing known = record known { next = 0; checkpoint = None }

-- Each may be run: of one of which nothing is known nothing is loaded either,
runs_unknown : (job : code.Job) → IsRunnable (job_view job)
runs_unknown (jobs.Create job) = tt
runs_unknown (jobs.Load use_checkpoints) = tt
runs_unknown (jobs.Checkpoint use_checkpoints) = tt
runs_unknown (jobs.Stream job) = (IsUtf8-string_bytes job.application, job.some, job.timely, λ end. (knows_nothing end.known, refl))
runs_unknown (jobs.Read place max use_checkpoints) = tt

-- and one that begins with what a cache knows begins with what that has loaded.
pub runs_known : (cache : LogCache) (job : code.Job) → IsRunnable (with_known cache (job_view job))
runs_known cache (jobs.Create job) = tt
runs_known cache (jobs.Load use_checkpoints) = tt
runs_known cache (jobs.Checkpoint use_checkpoints) = tt
runs_known cache (jobs.Stream job) = (IsUtf8-string_bytes job.application, job.some, job.timely, λ end. (cache.loaded, refl))
runs_known cache (jobs.Read place max use_checkpoints) = tt

-- What a job tells of which nothing was known, over a store where no put is in flight.
pub quiet_job : (job : code.Job) (most : ℕ) (end : code_end.JobEnd) (old new : Objects) → DrivesJob (λ talk. Unit {0}) (Unit {0}) (job_view job) most end (old, []) (new, []) 0 0 → IsJobDone (job_view job) old new (end_view end)
quiet_job job most end old new driven = run_quietly (λ talk. Unit {0}) (Unit {0}) tt most (old, []) (new, []) 0 0 (job_view job) end (runs_unknown job) driven
