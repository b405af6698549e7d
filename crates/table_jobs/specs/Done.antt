-- What a job tells and leaves over objects, where no call is lost.
use Rattle.std.specs.Prelude.{◌≡◌, ◌≢◌, ℕ, Bool, List, Option, Result, Ok, Err, OnErr}
use Rattle.serde_json.specs.Data.{Items}
use Rattle.outcomes.specs.Outcome.{IsSaid}
use Rattle.store_core.specs.Objects.{Objects}
use Rattle.table_log.specs.Loads as loads
use Rattle.table_log.specs.Loads.{IsLoaded}
use Rattle.table_log.specs.Restoring.{replayed}
use Rattle.table_log.specs.declared.fault.LogFault.{LogFault}
use Rattle.table_log.specs.declared.fault.LogFault.TheVariants as logs
use Rattle.table_log.specs.declared.loading.Loaded.{Loaded}
use Rattle.commit_core.specs.Creating.{Creates}
use Rattle.commit_core.specs.declared.fault.CreateFault.{CreateFault}
use Rattle.commit_core.specs.declared.fault.CreateFault.TheVariants as creations
use Rattle.batch_core.specs.Refusals.{SinkGives}
use Rattle.batch_core.specs.declared.fault.SinkFault.{SinkFault}
use Rattle.batch_core.specs.declared.fault.SinkFault.TheVariants as faults
use Rattle.sink_core.specs.Appending.{MayAppend, MayHoldFile, PutsWell, append_plan, appended_by, with_append}
use Rattle.sink_core.specs.Closes.{ClosesWell, MayClose, close_plan, stream_closed_by, with_close_commit}
use Rattle.sink_core.specs.SinkSessions.{SinkJob, SinkTask, appends, closes}
use Rattle.sink_core.specs.declared.sink_state.SinkOutcome.{SinkOutcome}
use Rattle.snapshot_core.specs.Taking.{HasPut, IsRefusal}
use Rattle.snapshot_core.specs.declared.fault.SnapshotFault.{SnapshotFault}
use Rattle.snapshot_core.specs.declared.fault.SnapshotFault.TheVariants as snapshots
use Rattle.log_rows.specs.TailFaults.{ReadGives}
use Rattle.log_rows.specs.declared.tail_fault.TailFault.TheVariants as tails
use Rattle.source_core.specs.SourceSessions.{SourceJob, read_told, read_view}
use Rattle.source_core.specs.declared.source_session.ReadEnd.{ReadEnd}
use Rattle.table_jobs.specs.Jobs.{Job, Outcome, checkpoint, checkpoints, creates, creation, load, loads, read, reads, stream, streams}

-- A batch was appended, or not: what is told, and what is left, are those of the append over the objects; where a growth
-- was refused its file may stand alone.
pub record IsAppended (use_checkpoints : Bool) (application : List ℕ) (number at : ℕ) (items : Items) (old new : Objects) (answer : Result SinkOutcome SinkFault) : Type 0 where
  pub told : SinkGives (λ given. given) answer (appended_by use_checkpoints old application number at items)
  pub left : answer ≢ Err faults.Memory → new ≡ with_append old (append_plan use_checkpoints old application number at items)
  pub short : answer ≡ Err faults.Memory → MayHoldFile old (append_plan use_checkpoints old application number at items) new
  pub well_put : answer ≢ Err faults.Memory → PutsWell application number at (append_plan use_checkpoints old application number at items)
  pub grows : MayAppend application number at (append_plan use_checkpoints old application number at items) old new
  pub unlost : (version : Option ℕ) → answer ≢ Err (faults.Lost version)

-- so a stream was closed, or not
pub record IsClosed (use_checkpoints : Bool) (application : List ℕ) (at : ℕ) (old new : Objects) (answer : Result SinkOutcome SinkFault) : Type 0 where
  pub told : SinkGives (λ given. given) answer (stream_closed_by use_checkpoints old application)
  pub left : answer ≢ Err faults.Memory → new ≡ with_close_commit old application at (close_plan use_checkpoints old application)
  pub short : answer ≡ Err faults.Memory → new ≡ old
  pub well_put : answer ≢ Err faults.Memory → ClosesWell application at (close_plan use_checkpoints old application)
  pub grows : MayClose application at (close_plan use_checkpoints old application) old new
  pub unlost : (version : Option ℕ) → answer ≢ Err (faults.Lost version)

-- so a table was created, or not
abbrev pub IsCreationDone : (id : List ℕ) (at : ℕ) (schema : List ℕ) (old new : Objects) → Result (Unit {0}) CreateFault → Type 0
IsCreationDone id at schema old new answer = Creates (Unit {0}) id at schema answer old new × OnErr answer (new ≡ old) × (answer ≢ Err creations.Lost)

-- and a checkpoint of the newest version was put, or nothing, for a reason
abbrev pub IsCheckpointed : (use_checkpoints : Bool) (old new : Objects) → Result ℕ SnapshotFault → Type 0
IsCheckpointed use_checkpoints old new (Ok version) = HasPut use_checkpoints version old new
IsCheckpointed use_checkpoints old new (Err fault) = IsRefusal use_checkpoints fault old × (new ≡ old) × (fault ≢ snapshots.Lost)

-- and a log was loaded, or not
abbrev pub IsLoadDone : (use_checkpoints : Bool) (old new : Objects) → Result Loaded LogFault → Type 0
IsLoadDone use_checkpoints old new (Ok loaded) = IsLoaded use_checkpoints old loaded × (new ≡ old)
IsLoadDone use_checkpoints old new (Err fault) = IsSaid (loads.says fault) (replayed use_checkpoints old) × (new ≡ old) × (fault ≢ logs.Lost)

-- and rows were read, or not
pub record IsReadDone (job : SourceJob) (old new : Objects) (end : ReadEnd) : Type 0 where
  pub told : ReadGives read_view end.answer (read_told job old)
  pub same : new ≡ old
  pub unlost : end.answer ≢ Err tails.Lost

-- what was done to a stream, by its task
abbrev pub IsTaskDone : SinkTask → SinkJob → (old new : Objects) → Result SinkOutcome SinkFault → Type 0
IsTaskDone (appends number items) job old new answer = IsAppended job.load.use_checkpoints job.application number job.at items old new answer
IsTaskDone closes job old new answer = IsClosed job.load.use_checkpoints job.application job.at old new answer

-- A job was done, or refused for its reason, or memory ran out: what it told, and what it left of these objects.
abbrev pub IsJobDone : Job → (old new : Objects) → Outcome → Type 0
IsJobDone (creates job) old new (creation answer) = IsCreationDone job.id job.at job.schema old new answer
IsJobDone (loads job) old new (load result) = IsLoadDone job.use_checkpoints old new result
IsJobDone (checkpoints job) old new (checkpoint end) = IsCheckpointed job.use_checkpoints old new end.answer
IsJobDone (streams job) old new (stream end) = IsTaskDone job.task job old new end.answer
IsJobDone (reads job) old new (read end) = IsReadDone job old new end
IsJobDone job old new outcome = ⊥
