-- How a job was run over one store, whatever that loses; what it told, what it left there, and what it hands back of the log. What stands
-- and which puts are in flight, and how often the store has lost a call, is meant before it (`old`, `count`) and behind it (`new`, `later`).
use Rattle.std.specs.Prelude.{◌≡◌, ℕ, Bool, List, true, Result, Ok, Err, IfErr, IfOk, OnOk}
use Rattle.store_core.specs.Calls.{HasRisen, IsUntouched}
use Rattle.store_core.specs.Objects.{HasObjectsOf, Objects}
use Rattle.session_core.specs.Sessions.{Drives}
use Rattle.session_core.specs.Stores.{State}
use Rattle.session_core.specs.Talks.{Bears, Talk}
use Rattle.log_reading.specs.LogCache.{HoldsFile}
use Rattle.log_reading.specs.Logs.{IsPastLog}
use Rattle.table_log.specs.Loads.{IsFront, IsLoaded}
use Rattle.table_log.specs.LoadSessions.{IsLoadTold}
use Rattle.commit_core.specs.Creating.{Creates, IsLostCreation}
use Rattle.commit_core.specs.declared.fault.CreateFault.{CreateFault}
use Rattle.commit_core.specs.declared.fault.CreateFault.TheVariants as creations
use Rattle.batch_core.specs.Refusals.{file_too_large}
use Rattle.batch_core.specs.declared.fault.SinkFault.{SinkFault}
use Rattle.batch_core.specs.declared.fault.SinkFault.TheVariants as sinks
use Rattle.sink_core.specs.Appending.{append_plan}
use Rattle.sink_core.specs.SinkLaws.{IsBehindRules}
use Rattle.sink_core.specs.SinkSessions.{SinkJob, SinkTask, appends, closes}
use Rattle.sink_core.specs.declared.sink_state.SinkEnd.{SinkEnd}
use Rattle.sink_core.specs.declared.sink_state.SinkOutcome.{SinkOutcome}
use Rattle.snapshot_core.specs.Taking.{HasPut, IsKnownIfNew, IsRefusal, KeepsLog, KnowsLog, MayHavePutCheckpoint}
use Rattle.snapshot_core.specs.declared.checkpoint_session.CheckpointEnd.{CheckpointEnd}
use Rattle.snapshot_core.specs.declared.fault.SnapshotFault.{SnapshotFault}
use Rattle.snapshot_core.specs.declared.fault.SnapshotFault.TheVariants as snapshots
use Rattle.log_rows.specs.TailFaults.{ReadGives}
use Rattle.source_core.specs.SourceSessions.{GoesBySchema, SourceJob, read_told, read_view}
use Rattle.source_core.specs.declared.source_session.ReadEnd.{ReadEnd}
use Rattle.table_jobs.specs.Jobs.{Asks, Ends, Job, Outcome, checkpoint, checkpoints, creates, creation, is_lost_outcome, load, loads, read, reads, stream, streams}
use Rattle.table_jobs.specs.Sessions.{end_view}
use Rattle.table_jobs.specs.declared.job_session.JobEnd.{JobEnd}

-- The job's session was driven by a talk that the store gave, in which these calls were made and no others, all of which the job asks
-- for, and behind which it told this. What is known of the log goes before it as some talk that the store bears.
abbrev pub IsJobDriven : (makes : Talk → Type 0) (is_reliable : Type 0) → Job → JobEnd → (old new : State) (count later : ℕ) → Type 0
IsJobDriven makes is_reliable job end old new count later =
    (most : ℕ) × (before : Talk) × Bears old.0 before
    × Drives Asks (λ job before talk outcome. Ends job before talk (end_view outcome)) (λ outcome. is_lost_outcome (end_view outcome)) makes is_reliable job most before end old new count later

-- ---- a creation

-- what it leaves in flight and counts, by its answer: a put that was lost may have landed, or may land later
abbrev pub LeavesCreation : (id : List ℕ) (at : ℕ) (schema : List ℕ) → Result (Unit {0}) CreateFault → (old new : State) (count later : ℕ) → Type 0
LeavesCreation id at schema (Err creations.Lost) old new count later = IsLostCreation id at schema old new × HasRisen count later
LeavesCreation id at schema (Err creations.Memory) old new count later = IsUntouched old new × (later ≡ count)
LeavesCreation id at schema answer old new count later = (new.1 ≡ old.1) × (later ≡ count)

-- ---- a checkpoint

-- what was put, by the answer: the newest version's checkpoint; that, or nothing, where a call was lost; nothing, and the reason is one
abbrev pub TakesCheckpoint : (use_checkpoints : Bool) → Result ℕ SnapshotFault → (old new : State) (count later : ℕ) → Type 0
TakesCheckpoint use_checkpoints (Ok version) old new count later = HasPut use_checkpoints version old.0 new.0 × (new.1 ≡ old.1) × (later ≡ count)
TakesCheckpoint use_checkpoints (Err snapshots.Lost) old new count later = MayHavePutCheckpoint use_checkpoints old new × HasRisen count later
TakesCheckpoint use_checkpoints (Err why) old new count later = IsRefusal use_checkpoints why old.0 × IsUntouched old new × (later ≡ count)

pub record LeavesCheckpoint (is_reliable : Type 0) (use_checkpoints : Bool) (end : CheckpointEnd) (old new : State) (count later : ℕ) : Type 0 where
  pub put : TakesCheckpoint use_checkpoints end.answer old new count later
  -- what was loaded is known from now on
  pub known : OnOk end.answer (KnowsLog use_checkpoints old.0 new.0 end.known)
  -- over a store that loses no call, with checkpoints, from the one that was put, if none of its name stood
  pub known_if_new : is_reliable → use_checkpoints ≡ true → IfOk end.answer (λ version. IsKnownIfNew use_checkpoints version old.0 new.0 end.known)
  -- where none was put for what the table has or lacks, or as too large, or its put was lost, all that was loaded stays known
  pub kept : IfErr end.answer (λ fault. KeepsLog use_checkpoints fault old new end.known)

-- ---- an append and a close

-- an append tells that its file would be too large only where it would
abbrev pub TellsLargeBatch : SinkTask → SinkJob → Result SinkOutcome SinkFault → Objects → Type 0
TellsLargeBatch (appends number items) job answer objects =
    answer ≡ Err sinks.FileTooLarge → append_plan job.load.use_checkpoints objects job.application number job.at items ≡ Err file_too_large
TellsLargeBatch closes job answer objects = Unit {0}

pub record LeavesStream (is_reliable : Type 0) (job : SinkJob) (end : SinkEnd) (old new : State) : Type 0 where
  -- what stood stands
  pub kept : HasObjectsOf old.0 new.0
  pub large : TellsLargeBatch job.task job end.answer old.0
  -- with an answer that is told only behind the rules the log is known from now on, as it was loaded
  pub learnt : is_reliable → IsBehindRules end.answer → IsLoaded job.load.use_checkpoints old.0 end.known

-- ---- a read, which leaves the store as it was

pub record LeavesRead (job : SourceJob) (end : ReadEnd) (old new : State) : Type 0 where
  pub told : ReadGives read_view end.answer (read_told job old.0)
  -- the schema of the rows is the one in force at the place
  pub schema : GoesBySchema job old.0 end.answer
  pub same : IsUntouched old new

-- ---- any job

-- What was told and left over a store, by the kind of the job. That a call was lost is told as its talk says (`IsJobDriven`).
abbrev pub IsDoneOver : (is_reliable : Type 0) → Job → Outcome → (old new : State) (count later : ℕ) → Type 0
IsDoneOver is_reliable (creates job) (creation answer) old new count later =
    Creates is_reliable job.id job.at job.schema answer old.0 new.0 × LeavesCreation job.id job.at job.schema answer old new count later
IsDoneOver is_reliable (loads job) (load result) old new count later = IsLoadTold job.use_checkpoints result old new count later
IsDoneOver is_reliable (checkpoints job) (checkpoint end) old new count later = LeavesCheckpoint is_reliable job.use_checkpoints end old new count later
IsDoneOver is_reliable (streams job) (stream end) old new count later = LeavesStream is_reliable job end old new
IsDoneOver is_reliable (reads job) (read end) old new count later = LeavesRead job end old new
IsDoneOver is_reliable job outcome old new count later = ⊥

-- what is handed back of a log is so of these objects
abbrev pub KnowsSo : Objects → Outcome → Type 0
KnowsSo objects (creation answer) = Unit {0}
KnowsSo objects (load (Ok loaded)) = IsFront objects loaded
KnowsSo objects (load (Err fault)) = Unit {0}
KnowsSo objects (checkpoint end) = IsFront objects end.known
KnowsSo objects (stream end) = IsFront objects end.known
KnowsSo objects (read end) = IsPastLog objects end.known × HoldsFile objects end.file
