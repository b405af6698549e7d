-- Which puts are good in a store: they leave it sound, and a data file is one of a batch that was handed in.
use Rattle.std.specs.Prelude.{◌≡◌, ℕ, List, [], ◌∷◌, Contains, Ok, Some}
use Rattle.std.specs.List.{AllByRecursion}
use Rattle.schema_tree.specs.Reading.{schema_of}
use Rattle.store_core.specs.Objects.{Objects}
use Rattle.store_core.specs.Names.{commit_name}
use Rattle.table_log.specs.Restoring.{IsSoundCheckpoint, checkpoint_version}
use Rattle.table_model.specs.Table.{Batch, Entry, close, group}
use Rattle.table_store.specs.Commits.{IsCommitOf}
use Rattle.table_store.specs.Holds.{FileStands, Holds, IsFreeIn}
use Rattle.table_store.specs.Schema.{Schema}
use Rattle.table_store.specs.Sound.{IsAdmissible}
use Rattle.sink_core.specs.SinkSessions as tasks
use Rattle.sink_core.specs.SinkSessions.{SinkJob}
use Rattle.session_laws.specs.Rows.{IsBatchOf, IsJobFile}
use Rattle.session_laws.specs.Jobs.{Job, CanBegin, job_items}
use Rattle.session_laws.specs.Jobs as jobs
use Rattle.session_laws.specs.CreateSessions.{CreateJob, IsCreationOf}
use Rattle.stream_model.specs.Events.{Event, begin}

-- some actor began this job, which can begin
abbrev pub WasBegun : List Event → Job → Type 0
WasBegun events job = CanBegin job × (name : ℕ) × Contains events (begin name job)

-- a table was created as a job asked that was handed in: its schema is what that job's text is read as
abbrev pub WasCreated : List Event → Schema → List Entry → Type 0
WasCreated events schema [] = Unit {0}
WasCreated events schema (first ∷ rest) = (job : CreateJob) × WasBegun events (jobs.creates job) × (schema_of job.schema ≡ Ok schema)

-- an append or a close was handed in, as an item of some job
abbrev pub Submitted : List Event → SinkJob → Type 0
Submitted events item = (job : Job) × WasBegun events job × Contains (job_items job) item

-- a batch is that of an item of this job, with its rows for a table of this schema
abbrev pub IsBatchOfJob : Schema → Job → Batch → Type 0
IsBatchOfJob schema job b = (item : SinkJob) × Contains (job_items job) item × IsBatchOf schema item b

-- and it was handed in, as such
abbrev pub IsSubmittedBatch : List Event → Schema → Batch → Type 0
IsSubmittedBatch events schema b = (item : SinkJob) × Submitted events item × IsBatchOf schema item b

-- under this name, a file of the rows of a batch that was handed in, for a table of this schema
abbrev pub IsSubmittedFile : List Event → Schema → (name bytes : List ℕ) → Type 0
IsSubmittedFile events schema name bytes = (item : SinkJob) × Submitted events item × IsJobFile schema item name bytes

-- the store holds a table of this schema with a version at least; in a sound store the first is its creation
abbrev pub HasTable : Objects → Schema → Type 0
HasTable objects schema = (first : Entry) × (rest : List Entry) × Holds objects schema (first ∷ rest)

-- What a commit holds that a session puts: as version 0, the creation that a job asks for; batches of items of one job, whose files stand; or
-- the close that a job asks for.
pub data IsCommitMade (events : List Event) (objects : Objects) (version : ℕ) (bytes : List ℕ) : Type 0 where
  creates : (job : CreateJob) → WasBegun events (jobs.creates job) → version ≡ 0 → IsCreationOf job bytes → IsCommitMade events objects version bytes
  appends : (schema : Schema) (job : Job) (bs : List Batch) → HasTable objects schema → WasBegun events job → AllByRecursion (IsBatchOfJob schema job) bs → IsCommitOf schema (group bs) bytes → AllByRecursion (FileStands objects schema) bs → IsCommitMade events objects version bytes
  closes : (schema : Schema) (item : SinkJob) → Submitted events item → item.task ≡ tasks.closes → IsCommitOf schema (close item.application) bytes → IsCommitMade events objects version bytes

-- A put is good: an admissible commit of a job's creation, of batches of one job or of a job's close (not told to the byte but for a
-- creation); a sound checkpoint; or a file of a batch that was handed in, under a name that no entry lacks.
pub data IsGoodPut (events : List Event) (objects : Objects) (name bytes : List ℕ) : Type 0 where
  a_commit : (version : ℕ) → name ≡ commit_name version → IsAdmissible objects version bytes → IsCommitMade events objects version bytes → IsGoodPut events objects name bytes
  a_checkpoint : (version : ℕ) → checkpoint_version name ≡ Some version → IsSoundCheckpoint objects version bytes → IsGoodPut events objects name bytes
  a_file : (schema : Schema) → HasTable objects schema → IsSubmittedFile events schema name bytes → IsFreeIn objects name → IsGoodPut events objects name bytes
