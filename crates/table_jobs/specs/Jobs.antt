-- The jobs that there are: what each is to do, what its session asks for and tells behind a talk of its own, and which can begin.
use Rattle.std.specs.Prelude.{◌≡◌, ◌≤◌, ℕ, Bool, List, [], ◌∷◌, Result, length}
use Rattle.std.specs.Str.{IsUtf8}
use Rattle.session_core.specs.Talks.{Asked, Talk}
use Rattle.table_log.specs.LoadSessions.{LoadAsks, LoadEnds, LoadJob, is_lost_load}
use Rattle.table_log.specs.declared.fault.LogFault.{LogFault}
use Rattle.table_log.specs.declared.loading.Loaded.{Loaded}
use Rattle.snapshot_core.specs.CheckpointSessions.{CheckpointAsks, CheckpointEnds, is_lost_checkpoint}
use Rattle.snapshot_core.specs.declared.checkpoint_session.CheckpointEnd.{CheckpointEnd}
use Rattle.commit_core.specs.CreateSessions.{CreateAsks, CreateEnds, CreateJob, creation_tells_lost}
use Rattle.commit_core.specs.declared.fault.CreateFault.{CreateFault}
use Rattle.sink_core.specs.SinkSessions.{SinkAsks, SinkEnds, SinkJob, is_lost_end}
use Rattle.batch_core.specs.declared.fault.SinkFault.{SinkFault}
use Rattle.sink_core.specs.declared.sink_state.SinkEnd.{SinkEnd}
use Rattle.sink_core.specs.declared.sink_state.SinkOutcome.{SinkOutcome}
use Rattle.source_core.specs.SourceSessions.{SourceAsks, SourceEnds, SourceJob, is_lost_read}
use Rattle.source_core.specs.declared.source_session.ReadEnd.{ReadEnd}

-- what a session is to do: a table is created, a log is loaded, a checkpoint of its newest version is put, a batch is appended or a
-- stream closed, or rows are read
pub data Job : Type 0 where
  creates : CreateJob → Job
  loads : LoadJob → Job
  checkpoints : LoadJob → Job
  streams : SinkJob → Job
  reads : SourceJob → Job

-- what it tells when it ends
pub data Outcome : Type 0 where
  creation : Result (Unit {0}) CreateFault → Outcome
  load : Result Loaded LogFault → Outcome
  checkpoint : CheckpointEnd → Outcome
  stream : SinkEnd → Outcome
  read : ReadEnd → Outcome

-- The appends and closes of which a job consists, its items, each as a job by itself: that of a stream has itself for its one item.
abbrev pub job_items : Job → List SinkJob
job_items (streams job) = job ∷ []
job_items job = []

-- each of them with what was told of it
abbrev pub item_answers : Job → Outcome → List (SinkJob × Result SinkOutcome SinkFault)
item_answers (streams job) (stream end) = (job, end.answer) ∷ []
item_answers job outcome = []

-- what a job asks for, behind a talk of its own and what was known before it
abbrev pub Asks : Job → (before talk : Talk) → Asked → Type 0
Asks (creates job) before talk asked = CreateAsks job before talk asked
Asks (loads job) before talk asked = LoadAsks job before talk asked
Asks (checkpoints job) before talk asked = CheckpointAsks job before talk asked
Asks (streams job) before talk asked = SinkAsks job before talk asked
Asks (reads job) before talk asked = SourceAsks job before talk asked

-- what it tells there
abbrev pub Ends : Job → (before talk : Talk) → Outcome → Type 0
Ends (creates job) before talk (creation result) = CreateEnds job before talk result
Ends (loads job) before talk (load result) = LoadEnds job before talk result
Ends (checkpoints job) before talk (checkpoint end) = CheckpointEnds job before talk end
Ends (streams job) before talk (stream end) = SinkEnds job before talk end
Ends (reads job) before talk (read end) = SourceEnds job before talk end
Ends job before talk outcome = ⊥

-- the outcome tells that a call was lost
abbrev pub is_lost_outcome : Outcome → Bool
is_lost_outcome (creation result) = creation_tells_lost result
is_lost_outcome (load result) = is_lost_load result
is_lost_outcome (checkpoint end) = is_lost_checkpoint end
is_lost_outcome (stream end) = is_lost_end end
is_lost_outcome (read end) = is_lost_read end

-- a stream's application is a text, and its job tries a version at least
abbrev pub IsValidJob : Job → Type 0
IsValidJob (streams job) = IsUtf8 job.application × (1 ≤ job.tries)
IsValidJob job = Unit {0}

-- how many versions of the log a job knows before it begins
abbrev pub known_of : Job → ℕ
known_of (creates job) = 0
known_of (loads job) = job.known
known_of (checkpoints job) = job.known
known_of (streams job) = job.load.known
known_of (reads job) = length job.known

-- a job that can begin: a stream's application is a text and a version is tried at least, and no version is known already. Of the name of
-- a checkpoint from which none is known nothing is asked.
abbrev pub CanBegin : Job → Type 0
CanBegin job = IsValidJob job × (known_of job ≡ 0)
