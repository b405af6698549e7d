-- What a job tells and leaves whose session was driven over any store, and what it hands back of the log.
use Rattle.std.proofs.Common.{◌≡◌, ◌≢◌, ◌∙◌, ◌≤◌, ℕ, List, [], Bool, true, false, None, map, Result, Ok, Err, refl, sym, ap, subst}
use Rattle.std.specs.Prelude.{OnOk}
use Rattle.serde_json.specs.Data.{Items}
use Rattle.store_core.specs.Calls.{IsUntouched}
use Rattle.store_core.specs.Objects.{HasObjectsOf, Objects}
use Rattle.session_core.specs.Sessions.{Drives}
use Rattle.session_core.specs.Stores.{State}
use Rattle.session_core.specs.Talks.{Bears, Talk}
use Rattle.session_core.proofs.Callers.{all_got, got_borne, got_grown, talk_alone, talk_grows}
use Rattle.table_log.specs.Loads.{IsFront, IsLoaded}
use Rattle.table_log.specs.LoadSessions.{IsLoadTold, LoadAsks, LoadEnds, LoadJob, is_lost_load, load_job}
use Rattle.table_log.specs.declared.fault.LogFault.{LogFault}
use Rattle.table_log.specs.declared.loading.Loaded.{Loaded}
use Rattle.table_log.proofs.Callers.{front_grown, known_by_all, of_err, of_ok}
use Rattle.table_log.proofs.LoadTalks.{load_counted, load_front, load_lost, load_refused, load_told, load_untouched}
use Rattle.log_reading.specs.LogCache.{HoldsFile, IsCacheOf}
use Rattle.log_reading.specs.declared.log_cache.LogCache.{LogCache}
use Rattle.log_reading.proofs.Callers.{kept_grown, past_grown}
use Rattle.commit_core.specs.CreateSessions.{CreateAsks, CreateEnds, CreateJob, creation_tells_lost}
use Rattle.commit_core.specs.declared.fault.CreateFault.{CreateFault}
use Rattle.commit_core.specs.declared.fault.CreateFault.TheVariants as creations
use Rattle.commit_core.proofs.CreationTalks.{creates, else_stays, flight_stays, lost_creation, lost_rises, memory_leaves}
use Rattle.batch_core.specs.declared.fault.SinkFault.{SinkFault}
use Rattle.batch_core.specs.declared.fault.SinkFault.TheVariants as sinks
use Rattle.sink_core.specs.SinkLaws.{IsBehindRules}
use Rattle.sink_core.specs.SinkSessions.{AnswerEnds, SinkAsks, SinkEnds, SinkJob, SinkTask, appends, closes, is_lost_end}
use Rattle.sink_core.specs.declared.sink_state.SinkEnd.{SinkEnd}
use Rattle.sink_core.specs.declared.sink_state.SinkOutcome.{SinkOutcome}
use Rattle.sink_core.proofs.Driven.{driven_front, driven_kept}
use Rattle.sink_core.proofs.DrivenAppend.{driven_large}
use Rattle.sink_core.proofs.Kept.{handed_quiet, hands_back}
use Rattle.snapshot_core.specs.CheckpointSessions.{CheckpointAsks, CheckpointEnds, is_lost_checkpoint}
use Rattle.snapshot_core.specs.Taking.{IsRefusal}
use Rattle.snapshot_core.specs.declared.checkpoint_session.CheckpointEnd.{CheckpointEnd}
use Rattle.snapshot_core.specs.declared.fault.SnapshotFault.{SnapshotFault}
use Rattle.snapshot_core.specs.declared.fault.SnapshotFault.TheVariants as snapshots
use Rattle.snapshot_core.proofs.CheckpointTalks.{may_have_put, on_ok, put_counted, put_front, put_if_new, put_in_flight, put_kept, put_known, put_lost, put_refused, put_untouched, was_put}
use Rattle.source_core.specs.SourceSessions.{SourceAsks, SourceEnds, SourceJob, is_lost_read}
use Rattle.source_core.specs.declared.source_session.ReadEnd.{ReadEnd}
use Rattle.source_core.proofs.SourceTalks.{read_gives, read_goes_by, read_held, read_known, read_untouched}
use Rattle.table_jobs.specs.Jobs.{Asks, Ends, Job, is_lost_outcome}
use Rattle.table_jobs.specs.Jobs as kinds
use Rattle.table_jobs.specs.Over.{IsDoneOver, KnowsSo, LeavesCheckpoint, LeavesCreation, LeavesRead, LeavesStream, TakesCheckpoint, TellsLargeBatch}
use Rattle.table_jobs.specs.Sessions.{end_view}
use Rattle.table_jobs.specs.declared.job_session.JobEnd as code_end
use Rattle.table_jobs.specs.declared.job_session.JobEnd.TheVariants as ends
use Rattle.table_jobs.proofs.QuietJobs.{BeginsKnown, DrivesJob, IsRunnable, same_drive}

-- what is known of a store is so of one that has all that it had, and maybe more
pub cache_grown : (old new : Objects) → HasObjectsOf old new → (cache : LogCache) → IsCacheOf old cache → IsCacheOf new cache
cache_grown old new grown cache is = record { loaded = front_grown old new grown cache.loaded is.loaded; log = past_grown old new grown cache.log is.log; file = kept_grown old new grown cache.file is.file }

-- and it is so of each that bears the talk in which every object was got
pub cache_by_all : (objects : Objects) (cache : LogCache) → IsCacheOf objects cache → (more : Objects) → Bears more (all_got objects objects) → IsCacheOf more cache
cache_by_all objects cache is more borne = cache_grown objects more (got_grown objects more borne) cache is

module _ (makes : Talk → Type 0) (is_reliable : Type 0) (most : ℕ) (old new : State) (count later : ℕ) where
  -- ---- a creation

  module _ (job : CreateJob) (before : Talk) (outcome : Result (Unit {0}) CreateFault) (driven : Drives CreateAsks CreateEnds creation_tells_lost makes is_reliable job most before outcome old new count later) where
    stays : outcome ≢ Err creations.Lost → (new.1 ≡ old.1) × (later ≡ count)
    stays other = (flight_stays job old new driven.talk driven.talked outcome driven.ended other, else_stays job driven.talk count later driven.counted outcome driven.ended other)

    leaves : (answer : Result (Unit {0}) CreateFault) → outcome ≡ answer → LeavesCreation job.id job.at job.schema answer old new count later
    leaves (Err creations.Lost) is = (lost_creation job old new driven.talk driven.talked outcome driven.ended is, lost_rises job driven.talk count later driven.counted outcome driven.ended is)
    leaves (Err creations.Memory) is =
        let same = stays (λ lost. let wrong : Err creations.Memory ≡ Err creations.Lost = sym is ∙ lost in absurd cc) in
        ((memory_leaves job old new driven.talk driven.talked outcome driven.ended is, same.0), same.1)
    leaves (Ok done) is = stays (λ lost. let wrong : Ok done ≡ Err creations.Lost = sym is ∙ lost in absurd cc)
    leaves (Err creations.TableExists) is = stays (λ lost. let wrong : Err creations.TableExists ≡ Err creations.Lost = sym is ∙ lost in absurd cc)
    leaves (Err (creations.BadSchema why)) is = stays (λ lost. let wrong : Err (creations.BadSchema why) ≡ Err creations.Lost = sym is ∙ lost in absurd cc)
    leaves (Err creations.BadId) is = stays (λ lost. let wrong : Err creations.BadId ≡ Err creations.Lost = sym is ∙ lost in absurd cc)
    leaves (Err creations.TooLarge) is = stays (λ lost. let wrong : Err creations.TooLarge ≡ Err creations.Lost = sym is ∙ lost in absurd cc)

    create_over : IsDoneOver is_reliable (kinds.creates job) (kinds.creation outcome) old new count later
    create_over = (creates job old new driven.talk is_reliable driven.exact outcome driven.ended driven.talked, leaves outcome refl)

  -- ---- a checkpoint

  module _ (job : LoadJob) (known : Loaded) (answer : Result ℕ SnapshotFault)
      (driven : Drives CheckpointAsks CheckpointEnds is_lost_checkpoint makes is_reliable job most (all_got old.0 old.0) (record { known = known; answer = answer }) old new count later) where
    unput : (fault : SnapshotFault) → answer ≡ Err fault → fault ≢ snapshots.Lost → TakesCheckpoint job.use_checkpoints (Err fault) old new count later
    unput fault is other =
        let unlost : answer ≢ Err snapshots.Lost = λ lost. other (same_fault (sym is ∙ lost)) in
        by_fault fault is other unlost
      where
        same_fault : {one two : SnapshotFault} → ◌≡◌ {A = Result ℕ SnapshotFault} (Err one) (Err two) → one ≡ two
        same_fault e = cc

        refusal : (fault : SnapshotFault) → answer ≡ Err fault → answer ≢ Err snapshots.Lost → IsRefusal job.use_checkpoints fault old.0 × IsUntouched old new × (later ≡ count)
        refusal fault is unlost = (
          put_refused job is_reliable most known answer old new count later driven fault is,
          (put_untouched job is_reliable most known answer old new count later driven unlost fault is, put_in_flight job is_reliable most known answer old new count later driven unlost),
          put_counted job is_reliable most known answer old new count later driven unlost,
        )

        by_fault : (fault : SnapshotFault) → answer ≡ Err fault → fault ≢ snapshots.Lost → answer ≢ Err snapshots.Lost → TakesCheckpoint job.use_checkpoints (Err fault) old new count later
        by_fault snapshots.Lost is other unlost = absurd (other refl)
        by_fault snapshots.Memory is other unlost = refusal snapshots.Memory is unlost
        by_fault (snapshots.BadLog version) is other unlost = refusal (snapshots.BadLog version) is unlost
        by_fault (snapshots.Unsupported why) is other unlost = refusal (snapshots.Unsupported why) is unlost
        by_fault snapshots.TooLarge is other unlost = refusal snapshots.TooLarge is unlost

    takes : (told : Result ℕ SnapshotFault) → answer ≡ told → TakesCheckpoint job.use_checkpoints told old new count later
    takes (Ok version) is =
        let unlost : answer ≢ Err snapshots.Lost = λ lost. let wrong : Ok version ≡ Err snapshots.Lost = sym is ∙ lost in absurd cc in
        (was_put job is_reliable most known answer old new count later driven version is, put_in_flight job is_reliable most known answer old new count later driven unlost, put_counted job is_reliable most known answer old new count later driven unlost)
    takes (Err snapshots.Lost) is = (may_have_put job is_reliable most known answer old new count later driven is, put_lost job is_reliable most known answer old new count later driven is)
    takes (Err snapshots.Memory) is = unput snapshots.Memory is (λ wrong. cc)
    takes (Err (snapshots.BadLog version)) is = unput (snapshots.BadLog version) is (λ wrong. cc)
    takes (Err (snapshots.Unsupported why)) is = unput (snapshots.Unsupported why) is (λ wrong. cc)
    takes (Err snapshots.TooLarge) is = unput snapshots.TooLarge is (λ wrong. cc)

    checkpoint_over : LeavesCheckpoint is_reliable job.use_checkpoints (record { known = known; answer = answer }) old new count later
    checkpoint_over = record {
      put = takes answer refl;
      known = on_ok answer _ (put_known job is_reliable most known answer old new count later driven);
      known_if_new = λ reliable used. of_ok answer _ (put_if_new job is_reliable most known answer old new count later driven reliable used);
      kept = of_err answer _ (put_kept job is_reliable most known answer old new count later driven);
    }

  -- ---- an append and a close

  large_so : (application : List ℕ) (task : SinkTask) (at tries : ℕ) (use_checkpoints : Bool) (known : Loaded) (end : SinkEnd)
      → Drives SinkAsks SinkEnds is_lost_end makes is_reliable (record { application = application; task = task; at = at; tries = tries; load = load_job use_checkpoints known; loads = true }) most (all_got old.0 old.0) end old new count later
      → TellsLargeBatch task (record { application = application; task = task; at = at; tries = tries; load = load_job use_checkpoints known; loads = true }) end.answer old.0
  large_so application (appends number items) at tries use_checkpoints known end driven = λ is.
      let job : SinkJob = record { application = application; task = appends number items; at = at; tries = tries; load = load_job use_checkpoints known; loads = true } in
      driven_large application number items at tries use_checkpoints known (all_got old.0 old.0) old (got_borne old.0) new driven.talk driven.talked (subst (λ a. AnswerEnds job (all_got old.0 old.0) driven.talk a) is driven.ended.answer)
  large_so application closes at tries use_checkpoints known end driven = tt

  stream_over : (job : SinkJob) (end : SinkEnd) → IsRunnable (kinds.streams job) → Drives SinkAsks SinkEnds is_lost_end makes is_reliable job most (all_got old.0 old.0) end old new count later → LeavesStream is_reliable job end old new
  stream_over job end runs driven =
      let before = all_got old.0 old.0 in
      let bears = got_borne old.0 in
      let begins : BeginsKnown job = runs.3 end in
      record {
        kept = driven_kept job makes is_reliable most before end.known end.answer old new count later bears driven;
        large =
            subst (λ (j : SinkJob). TellsLargeBatch job.task j end.answer old.0) (sym begins.1)
            (large_so job.application job.task job.at job.tries job.load.use_checkpoints begins.0 end
            (subst (λ (j : SinkJob). Drives SinkAsks SinkEnds is_lost_end makes is_reliable j most before end old new count later) begins.1 driven));
        learnt = λ is said. handed_quiet job before old new (ap (λ (j : SinkJob). j.loads) begins.1) bears runs.1 driven.talk end.known (hands_back job before driven.talk end.known end.answer driven.ended.answer driven.ended.kept said) (driven.exact is);
      }

  -- ---- a load and a read

  load_over : (job : LoadJob) (outcome : Result Loaded LogFault) → Drives LoadAsks LoadEnds is_lost_load makes is_reliable job most (all_got old.0 old.0) outcome old new count later → IsLoadTold job.use_checkpoints outcome old new count later
  load_over job outcome driven = record {
    loaded = of_ok outcome _ (load_told job is_reliable most outcome old new count later driven);
    refused = of_err outcome _ (load_refused job is_reliable most outcome old new count later driven);
    untouched = (load_untouched job is_reliable most outcome old new count later driven).0;
    in_flight = (load_untouched job is_reliable most outcome old new count later driven).1;
    lost = load_lost job is_reliable most outcome old new count later driven;
    counted = load_counted job is_reliable most outcome old new count later driven;
  }

  read_over : (job : SourceJob) (end : ReadEnd) → Drives SourceAsks SourceEnds is_lost_read makes is_reliable job most (all_got old.0 old.0) end old new count later → LeavesRead job end old new
  read_over job end driven = record {
    told = read_gives job makes is_reliable most end.known end.file end.answer old new count later driven;
    schema = read_goes_by job makes is_reliable most end.known end.file end.answer old new count later driven;
    same = read_untouched job makes is_reliable most end.known end.file end.answer old new count later driven;
  }

  -- ---- any job

  -- What was told and left is what a job of its kind may tell and leave.
  pub run_anywhere : (job : Job) (end : code_end.JobEnd) → IsRunnable job → DrivesJob makes is_reliable job most end old new count later → IsDoneOver is_reliable job (end_view end) old new count later
  run_anywhere (kinds.creates job) (ends.Created answer) runs driven =
      create_over job _ answer (same_drive makes is_reliable Asks _ _ CreateAsks CreateEnds creation_tells_lost _ job most _ _ answer old new count later driven driven.asked driven.ended driven.told)
  run_anywhere (kinds.loads job) (ends.Loaded result) runs driven = load_over job result (same_drive makes is_reliable Asks _ _ LoadAsks LoadEnds is_lost_load _ job most _ _ result old new count later driven driven.asked driven.ended driven.told)
  run_anywhere (kinds.checkpoints job) (ends.Checkpointed end) runs driven =
      checkpoint_over job end.known end.answer (same_drive makes is_reliable Asks _ _ CheckpointAsks CheckpointEnds is_lost_checkpoint _ job most _ _ end old new count later driven driven.asked driven.ended driven.told)
  run_anywhere (kinds.streams job) (ends.Streamed end) runs driven =
      stream_over job end runs (same_drive makes is_reliable Asks _ _ SinkAsks SinkEnds is_lost_end _ job most _ _ end old new count later driven driven.asked driven.ended driven.told)
  run_anywhere (kinds.reads job) (ends.Read end) runs driven = read_over job end (same_drive makes is_reliable Asks _ _ SourceAsks SourceEnds is_lost_read _ job most _ _ end old new count later driven driven.asked driven.ended driven.told)
  run_anywhere (kinds.creates job) (ends.Loaded told) runs driven = absurd driven.ended
  run_anywhere (kinds.creates job) (ends.Checkpointed told) runs driven = absurd driven.ended
  run_anywhere (kinds.creates job) (ends.Streamed told) runs driven = absurd driven.ended
  run_anywhere (kinds.creates job) (ends.Read told) runs driven = absurd driven.ended
  run_anywhere (kinds.loads job) (ends.Created told) runs driven = absurd driven.ended
  run_anywhere (kinds.loads job) (ends.Checkpointed told) runs driven = absurd driven.ended
  run_anywhere (kinds.loads job) (ends.Streamed told) runs driven = absurd driven.ended
  run_anywhere (kinds.loads job) (ends.Read told) runs driven = absurd driven.ended
  run_anywhere (kinds.checkpoints job) (ends.Created told) runs driven = absurd driven.ended
  run_anywhere (kinds.checkpoints job) (ends.Loaded told) runs driven = absurd driven.ended
  run_anywhere (kinds.checkpoints job) (ends.Streamed told) runs driven = absurd driven.ended
  run_anywhere (kinds.checkpoints job) (ends.Read told) runs driven = absurd driven.ended
  run_anywhere (kinds.streams job) (ends.Created told) runs driven = absurd driven.ended
  run_anywhere (kinds.streams job) (ends.Loaded told) runs driven = absurd driven.ended
  run_anywhere (kinds.streams job) (ends.Checkpointed told) runs driven = absurd driven.ended
  run_anywhere (kinds.streams job) (ends.Read told) runs driven = absurd driven.ended
  run_anywhere (kinds.reads job) (ends.Created told) runs driven = absurd driven.ended
  run_anywhere (kinds.reads job) (ends.Loaded told) runs driven = absurd driven.ended
  run_anywhere (kinds.reads job) (ends.Checkpointed told) runs driven = absurd driven.ended
  run_anywhere (kinds.reads job) (ends.Streamed told) runs driven = absurd driven.ended

  -- What it hands back of the log is so of the store that is left.
  pub run_knows : (job : Job) (end : code_end.JobEnd) → DrivesJob makes is_reliable job most end old new count later → KnowsSo new.0 (end_view end)
  run_knows job (ends.Created answer) driven = tt
  run_knows (kinds.loads job) (ends.Loaded (Err fault)) driven = tt
  run_knows (kinds.loads job) (ends.Loaded (Ok loaded)) driven =
      let own = same_drive makes is_reliable Asks _ _ LoadAsks LoadEnds is_lost_load _ job most _ _ (Ok loaded) old new count later driven driven.asked driven.ended driven.told in
      subst (λ (objects : Objects). IsFront objects loaded) (sym (load_untouched job is_reliable most (Ok loaded) old new count later own).0) (load_front job is_reliable most (Ok loaded) old new count later own loaded refl)
  run_knows (kinds.checkpoints job) (ends.Checkpointed end) driven =
      put_front job is_reliable most end.known end.answer old new count later (same_drive makes is_reliable Asks _ _ CheckpointAsks CheckpointEnds is_lost_checkpoint _ job most _ _ end old new count later driven driven.asked driven.ended driven.told)
  run_knows (kinds.streams job) (ends.Streamed end) driven =
      driven_front job makes is_reliable most (all_got old.0 old.0) end.known end.answer old new count later (got_borne old.0) (same_drive makes is_reliable Asks _ _ SinkAsks SinkEnds is_lost_end _ job most _ _ end old new count later driven driven.asked driven.ended driven.told)
  run_knows (kinds.reads job) (ends.Read end) driven =
      let own = same_drive makes is_reliable Asks _ _ SourceAsks SourceEnds is_lost_read _ job most _ _ end old new count later driven driven.asked driven.ended driven.told in
      (read_known job makes is_reliable most end.known end.file end.answer old new count later own, read_held job makes is_reliable most end.known end.file end.answer old new count later own)
  run_knows (kinds.creates job) (ends.Loaded told) driven = absurd driven.ended
  run_knows (kinds.creates job) (ends.Checkpointed told) driven = absurd driven.ended
  run_knows (kinds.creates job) (ends.Streamed told) driven = absurd driven.ended
  run_knows (kinds.creates job) (ends.Read told) driven = absurd driven.ended
  run_knows (kinds.loads job) (ends.Checkpointed told) driven = absurd driven.ended
  run_knows (kinds.loads job) (ends.Streamed told) driven = absurd driven.ended
  run_knows (kinds.loads job) (ends.Read told) driven = absurd driven.ended
  run_knows (kinds.checkpoints job) (ends.Loaded told) driven = absurd driven.ended
  run_knows (kinds.checkpoints job) (ends.Streamed told) driven = absurd driven.ended
  run_knows (kinds.checkpoints job) (ends.Read told) driven = absurd driven.ended
  run_knows (kinds.streams job) (ends.Loaded told) driven = absurd driven.ended
  run_knows (kinds.streams job) (ends.Checkpointed told) driven = absurd driven.ended
  run_knows (kinds.streams job) (ends.Read told) driven = absurd driven.ended
  run_knows (kinds.reads job) (ends.Loaded told) driven = absurd driven.ended
  run_knows (kinds.reads job) (ends.Checkpointed told) driven = absurd driven.ended
  run_knows (kinds.reads job) (ends.Streamed told) driven = absurd driven.ended

  -- What stood stands.
  pub run_keeps : (job : Job) (end : code_end.JobEnd) → DrivesJob makes is_reliable job most end old new count later → HasObjectsOf old.0 new.0
  run_keeps job end driven = talk_grows old new driven.talk (talk_alone old new driven.talk driven.talked)
