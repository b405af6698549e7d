-- What a session may ask for and tell in a store that bears its talk, call by call and outcome by outcome. The store holds the table of a
-- schema with its entries.
use Rattle.std.specs.Prelude.{◌≡◌, ◌⊎◌, ℕ, suc, ◌<◌, if◌then◌else◌, List, [], ◌∷◌, ◌++◌, length, take, true, false, Some, None, Result, Ok, Err, IsSome, string_bytes}
use Rattle.serde_json.specs.Data.{Items}
use Rattle.store_core.specs.Objects.{HasObjectsOf, Objects, names_of, object_at}
use Rattle.store_core.specs.declared.store.Put.TheVariants.{Exists}
use Rattle.store_core.specs.Names.{commit_name, greatest_version}
use Rattle.session_core.specs.Shown.{Shows}
use Rattle.session_core.specs.Talks.{Bears, Talk, list_names, get_object, put_commit, told_lost, told_names, told_object, told_put}
use Rattle.source_core.specs.ParquetFile.{KeepsLimits}
use Rattle.delta_actions.specs.Action.{Action}
use Rattle.delta_actions.specs.Commit.{IsCommit}
use Rattle.delta_actions.specs.Names.{data_file_name}
use Rattle.delta_checkpoint.specs.Names.{checkpoint_name}
use Rattle.delta_replay.specs.Snapshots.{IsSnapshotOf}
use Rattle.delta_replay.specs.Support.{checkpointable, fault_of}
use Rattle.table_log.specs.Counts.{count_in}
use Rattle.table_log.specs.LoadSessions.{HasGap}
use Rattle.table_log.specs.Restoring.{IsSoundCheckpoint, checkpoint_version}
use Rattle.table_log.specs.Versions.{commits_in, versions_from}
use Rattle.table_log.specs.declared.fault.LogFault.{LogFault}
use Rattle.table_log.specs.declared.fault.LogFault.TheVariants as load_faults
use Rattle.table_log.specs.declared.loading.Loaded.{Loaded}
use Rattle.table_model.specs.Appends.{TellsAppend, TellsClose}
use Rattle.table_model.specs.Lawful.{IsLawful}
use Rattle.table_model.specs.Table.{Batch, Entry}
use Rattle.table_model.specs.declared.table.AppendAnswer.{AppendAnswer}
use Rattle.table_model.specs.declared.table.AppendAnswer.TheVariants as appended
use Rattle.table_model.specs.declared.table.Closing.TheVariants as closed
use Rattle.table_store.specs.Holds.{Holds, Stands}
use Rattle.table_store.specs.Schema.{Schema, IsFileOf}
use Rattle.table_store.specs.Sound.{IsAdmissible}
use Rattle.commit_core.specs.SoundStores.{IsSoundStore}
use Rattle.snapshot_core.specs.Taking.{IsLargeFor, IsTableId}
use Rattle.snapshot_core.specs.declared.fault.SnapshotFault.{SnapshotFault}
use Rattle.snapshot_core.specs.declared.fault.SnapshotFault.TheVariants as checkpoint_faults
use Rattle.commit_core.specs.Commits.{commit_text}
use Rattle.batch_core.specs.Closing.{close_actions}
use Rattle.batch_core.specs.Committing.{batch_actions}
use Rattle.batch_core.specs.Refusals.{SinkRefusal, sink_refusal_view}
use Rattle.batch_core.specs.Requests.{IsFileTooLarge, SinkRequest}
use Rattle.batch_core.specs.RowsIn.{rows_from}
use Rattle.batch_core.specs.declared.fault.SinkFault.{SinkFault}
use Rattle.batch_core.specs.declared.fault.SinkFault.TheVariants as faults
use Rattle.sink_core.specs.SinkLaws.{versions_taken}
use Rattle.sink_core.specs.SinkSessions.{IsFineJob, LosesOther, SinkJob, SinkTask, appends, asked_of, closes, fine}
use Rattle.sink_core.specs.declared.sink_state.SinkOutcome.{SinkOutcome}
use Rattle.sink_core.specs.declared.sink_state.SinkOutcome.TheVariants.{Already, AlreadyClosed, Closed, Committed}
use Rattle.source_core.specs.SourceSessions.{SourceJob}
use Rattle.log_rows.specs.declared.read_state.ReadRows.{ReadRows}
use Rattle.log_rows.specs.declared.tail_fault.TailFault.{TailFault}
use Rattle.log_rows.specs.declared.tail_fault.TailFault.TheVariants as read_faults
use Rattle.read_laws.specs.Readable.{HasReadableFiles}
use Rattle.read_laws.specs.Readers.{MayTellOfTable}
use Rattle.session_laws.specs.Moves.{ends_lost}

-- ---- talks

-- The version behind all that a talk tells of: behind the last one that the put of a commit found taken, and before any was behind the
-- newest that was listed. A session that loads the log lists the names first.
abbrev pub next_after_talk : (next : ℕ) → Talk → ℕ
next_after_talk next [] = next
next_after_talk next ((list_names, told_names names) ∷ talk) = next_after_talk (count_in names) talk
next_after_talk next ((put_commit version bytes, told_put Exists) ∷ talk) = next_after_talk (suc version) talk
next_after_talk next (call ∷ talk) = next_after_talk next talk

-- the version that comes next by a talk; 0 where nothing was listed
abbrev pub next_version : Talk → ℕ
next_version talk = next_after_talk 0 talk

-- The one that comes next by the talk of a stream's session: where that loads nothing, it goes on behind the versions that it knows.
abbrev pub next_of_stream : SinkJob → Talk → ℕ
next_of_stream job talk = next_after_talk (if job.loads then 0 else job.load.known) talk

-- the put of a version's commit was lost at last
abbrev pub LosesCommit : Talk → (version : ℕ) → Type 0
LosesCommit talk version = (front : Talk) × (bytes : List ℕ) × (talk ≡ front ++ (put_commit version bytes, told_lost) ∷ [])

-- at last nothing was got under a name
abbrev pub GotNone : Talk → (name : List ℕ) → Type 0
GotNone talk name = (front : Talk) × (talk ≡ front ++ (get_object name, told_object None) ∷ [])

-- these names were listed first
abbrev pub ListsFirst : Talk → (names : List (List ℕ)) → Type 0
ListsFirst talk names = (rest : Talk) × (talk ≡ (list_names, told_names names) ∷ rest)

-- Why a version's commit is lacked: none was listed, and it is version 0; or it is below the one that comes next, and was got at last,
-- and nothing was there; or it isn't above the newest that was listed, and not all up to that were. A sound store holds what it lists,
-- with all versions below the newest, and what it found taken, and so gives no reason for the latter two where it answers what stands.
pub data LacksCommit (next : ℕ) (talk : Talk) (version : ℕ) : Type 0 where
  none_listed : (names : List (List ℕ)) → ListsFirst talk names → count_in names ≡ 0 → version ≡ 0 → LacksCommit next talk version
  got_none : version < next → GotNone talk (commit_name version) → LacksCommit next talk version
  not_listed : (names : List (List ℕ)) → ListsFirst talk names → version < count_in names → HasGap names → LacksCommit next talk version

-- ---- logs

-- The commits of the versions below the one that comes next, which all stand, one at least: those that were listed, and the winners
-- that were found.
abbrev pub IsLogBehind : Objects → (next : ℕ) → List (List Action) → Type 0
IsLogBehind objects next log = (0 < next) × (commits_in 0 (versions_from next 0 objects) ≡ Ok log)

-- what was loaded is the snapshot of these commits, and the version behind them
pub record IsLoadedBehind (objects : Objects) (talk : Talk) (loaded : Loaded) : Type 0 where
  pub next : loaded.next ≡ next_version talk
  pub log : List (List Action)
  pub stand : IsLogBehind objects (next_version talk) log
  pub snapshot : IsSnapshotOf log loaded.snapshot

-- ---- what is put

-- the batch that a job hands in, for a table of this schema: its rows are those that the items spell
pub record IsBatchOf (schema : Schema) (job : SinkJob) (batch : Batch) : Type 0 where
  pub items : Items
  pub task : job.task ≡ appends batch.number items
  pub application : batch.application ≡ job.application
  pub spelled : rows_from 0 schema items ≡ Ok batch.rows

abbrev pub name_of : Batch → List ℕ
name_of batch = data_file_name batch.application batch.number

-- under its batch's name a file of its rows, within the limits of what is read
abbrev pub IsJobFile : Schema → SinkJob → (name bytes : List ℕ) → Type 0
IsJobFile schema job name bytes = (batch : Batch) × IsBatchOf schema job batch × (name ≡ name_of batch) × IsFileOf schema bytes batch.rows × KeepsLimits bytes batch.rows

-- these bytes are the text of these actions, and read as them
abbrev pub IsTextOfActions : List ℕ → List Action → Type 0
IsTextOfActions bytes made = (bytes ≡ commit_text made) × IsCommit bytes made

-- Its commit, to the byte. That of a batch has the size and the count of rows of the file that stands under the batch's name, which is one
-- of its rows.
abbrev pub IsJobCommit : Objects → Schema → SinkJob → List ℕ → Type 0
IsJobCommit objects schema job bytes = by_task job.task
  where
    by_task : SinkTask → Type 0
    by_task (appends number items) = (batch : Batch) × IsBatchOf schema job batch
        × Stands objects (name_of batch) (λ file. IsFileOf schema file batch.rows × IsTextOfActions bytes (batch_actions job.application number job.at (length file) (length batch.rows)))
    by_task closes = IsTextOfActions bytes (close_actions job.application job.at)

-- a commit may be put as the version that comes next
abbrev pub MayPutNext : Objects → (next version : ℕ) (bytes : List ℕ) → Type 0
MayPutNext objects next version bytes = IsAdmissible objects version bytes × (version ≡ next)

-- under the name of a version's checkpoint, one of the log's commits up to that version
abbrev pub IsCheckpointPut : Objects → (name bytes : List ℕ) → Type 0
IsCheckpointPut objects name bytes = (version : ℕ) × (checkpoint_version name ≡ Some version) × IsSoundCheckpoint objects version bytes

-- ---- what a load tells

abbrev pub MayTellOfLoad : Objects → Talk → Result Loaded LogFault → Type 0
MayTellOfLoad objects talk (Ok loaded) = IsLoadedBehind objects talk loaded
MayTellOfLoad objects talk (Err (load_faults.BadLog version)) = LacksCommit (next_version talk) talk version
MayTellOfLoad objects talk (Err load_faults.Lost) = ends_lost talk ≡ true
-- of want of memory nothing is said
MayTellOfLoad objects talk (Err load_faults.Memory) = Unit {0}

-- ---- what a checkpoint's put tells

-- The newest version that was listed has a checkpoint under its own name, that of the version for the table's id; and what was loaded is
-- the snapshot of the commits up to it.
pub record HasCheckpoint (objects : Objects) (talk : Talk) (version : ℕ) (known : Loaded) : Type 0 where
  pub newest : suc version ≡ next_version talk
  pub loaded : IsLoadedBehind objects talk known
  pub id : List ℕ
  pub of_table : IsTableId loaded.log id
  pub stands : IsSome (object_at objects (checkpoint_name version id))

-- the checkpoint of the last of these commits, as it would be put, passes 64 MiB
pub record IsTooLargeCheckpoint (next : ℕ) (log : List (List Action)) : Type 0 where
  pub version : ℕ
  pub last : suc version ≡ next
  pub bytes : List ℕ
  pub large : IsLargeFor log version bytes

-- What it tells, where this is known from then on: also where the commits that were listed have no checkpoint that is put, it is their
-- snapshot.
abbrev pub MayTellOfCheckpoint : Objects → Talk → (known : Loaded) → Result ℕ SnapshotFault → Type 0
MayTellOfCheckpoint objects talk known (Ok version) = HasCheckpoint objects talk version known
MayTellOfCheckpoint objects talk known (Err (checkpoint_faults.BadLog version)) = LacksCommit (next_version talk) talk version
MayTellOfCheckpoint objects talk known (Err (checkpoint_faults.Unsupported fault)) =
    IsLoadedBehind objects talk known × (log : List (List Action)) × IsLogBehind objects (next_version talk) log × (checkpointable log ≡ Err (fault_of fault))
MayTellOfCheckpoint objects talk known (Err checkpoint_faults.TooLarge) =
    IsLoadedBehind objects talk known × (log : List (List Action)) × IsLogBehind objects (next_version talk) log × IsTooLargeCheckpoint (next_version talk) log
MayTellOfCheckpoint objects talk known (Err checkpoint_faults.Lost) = ends_lost talk ≡ true
-- of want of memory nothing is said
MayTellOfCheckpoint objects talk known (Err checkpoint_faults.Memory) = Unit {0}

-- ---- what a stream's session tells

-- what is told of the job's batch is so of the table
abbrev pub TellsOfBatch : Schema → List Entry → SinkJob → AppendAnswer → Type 0
TellsOfBatch schema entries job answer = (batch : Batch) × IsBatchOf schema job batch × TellsAppend answer batch entries

-- What of the job can be seen before the log is read is in order, and the rules say this of the commits that were listed, or known, and of the
-- winners that were found.
pub record RulesSay (objects : Objects) (job : SinkJob) (talk : Talk) (said : Result SinkRequest SinkRefusal) : Type 0 where
  pub seen : IsFineJob job
  pub log : List (List Action)
  pub stand : IsLogBehind objects (next_of_stream job talk) log
  pub says : asked_of job (next_of_stream job talk) log ≡ said

-- Something stands under the name of the job's batch: its get gave nothing; or, within the limits of what is read, it is no file of the
-- batch's rows.
pub record HasOtherFile (objects : Objects) (schema : Schema) (job : SinkJob) (talk : Talk) (name : List ℕ) : Type 0 where
  pub batch : Batch
  pub of_job : IsBatchOf schema job batch
  pub named : name ≡ name_of batch
  pub stands : IsSome (object_at objects name)
  pub why : GotNone talk name ⊎ Stands objects name (λ bytes. KeepsLimits bytes batch.rows → IsFileOf schema bytes batch.rows → ⊥)

-- The rules let the job's batch be put, and its file isn't written, since it would pass 64 MiB.
pub record HasLargeFile (objects : Objects) (job : SinkJob) (talk : Talk) : Type 0 where
  pub request : SinkRequest
  pub ruled : RulesSay objects job talk (Ok request)
  pub new : request.repeats ≡ false
  pub large : IsFileTooLarge request.schema request.rows

abbrev pub MayTellOfStream : Objects → Schema → List Entry → SinkJob → Talk → Result SinkOutcome SinkFault → Type 0
MayTellOfStream objects schema entries job talk (Ok (Committed version)) = TellsOfBatch schema entries job (appended.Committed version)
MayTellOfStream objects schema entries job talk (Ok (Already number)) = TellsOfBatch schema entries job (appended.Already number)
MayTellOfStream objects schema entries job talk (Ok (Closed version)) = (job.task ≡ closes) × TellsClose (closed.Closed version) job.application entries
MayTellOfStream objects schema entries job talk (Ok AlreadyClosed) = (job.task ≡ closes) × TellsClose closed.AlreadyClosed job.application entries
MayTellOfStream objects schema entries job talk (Err (faults.Stale last)) = TellsOfBatch schema entries job (appended.Stale last)
MayTellOfStream objects schema entries job talk (Err faults.StreamClosed) = TellsOfBatch schema entries job appended.StreamClosed × IsLawful entries
MayTellOfStream objects schema entries job talk (Err (faults.Differs name)) = HasOtherFile objects schema job talk (string_bytes name)
-- as many versions were found taken as may be tried, and this one at last
MayTellOfStream objects schema entries job talk (Err (faults.Contended newest)) = (versions_taken talk ≡ job.tries) × (next_of_stream job talk ≡ suc newest)
MayTellOfStream objects schema entries job talk (Err (faults.Lost (Some version))) = LosesCommit talk version
MayTellOfStream objects schema entries job talk (Err (faults.Lost None)) = LosesOther talk
MayTellOfStream objects schema entries job talk (Err (faults.BadLog version)) = LacksCommit (next_of_stream job talk) talk version
MayTellOfStream objects schema entries job talk (Err (faults.ReadOnly fault)) = RulesSay objects job talk (Err (sink_refusal_view (faults.ReadOnly fault)))
MayTellOfStream objects schema entries job talk (Err (faults.BadRow index fault)) = RulesSay objects job talk (Err (sink_refusal_view (faults.BadRow index fault)))
MayTellOfStream objects schema entries job talk (Err faults.BadApp) = fine job ≡ Err (sink_refusal_view faults.BadApp)
-- a limit of the job's, or there is no version any more that a commit can have
MayTellOfStream objects schema entries job talk (Err faults.TooLarge) = (fine job ≡ Err (sink_refusal_view faults.TooLarge)) ⊎ (greatest_version < next_of_stream job talk)
MayTellOfStream objects schema entries job talk (Err faults.FileTooLarge) = HasLargeFile objects job talk
-- no winner of a sound store has a metadata
MayTellOfStream objects schema entries job talk (Err (faults.SchemaChanged version)) = ⊥
MayTellOfStream objects schema entries job talk (Err faults.Memory) = Unit {0}

-- ---- what a read tells

-- whichever table a store holds, each of its batches' files keeps the limits of what is read
abbrev pub IsReadable : Objects → Type 0
IsReadable objects = (schema : Schema) (entries : List Entry) → Holds objects schema entries → HasReadableFiles objects entries

-- A store as it stood when a read's names were listed, which has grown since: it was sound, its files could be read, it bears what was known
-- before, and the talk shows it.
pub record WasListed (objects : Objects) (before talk : Talk) (listed : Objects) : Type 0 where
  pub sound : IsSoundStore listed
  pub readable : IsReadable listed
  pub grown : HasObjectsOf listed objects
  pub earlier : Bears listed before
  pub lists : ListsFirst talk (names_of listed)
  pub shown : Shows talk listed

-- of a log without versions a read tells that version 0 is missing; or that a call was lost, or memory ran out
abbrev pub TellsOfNone : Result ReadRows TailFault → Type 0
TellsOfNone (Err (read_faults.BadLog version)) = version ≡ 0
TellsOfNone (Err read_faults.Lost) = Unit {0}
TellsOfNone (Err read_faults.Memory) = Unit {0}
TellsOfNone answer = ⊥

-- Of the versions that were listed it tells, by the table's schema, a part from its offset on: as many rows as it was to hand out, or those up to the version
-- that came next then; or that its offset is past their end, or in no file of its version; or that a call was lost or memory ran out. Where none
-- was listed, what is told of no table.
abbrev pub TellsOfListed : Schema → List Entry → SourceJob → Result ReadRows TailFault → Type 0
TellsOfListed schema [] job answer = TellsOfNone answer
TellsOfListed schema (first ∷ rest) job answer = MayTellOfTable schema job.max job.place (first ∷ rest) answer

-- That a call was lost is told only right behind one that was. What else is told is so of the table's first versions, as many as were listed,
-- where the talk shows a store as it stood then. Of other talks, by which what was listed isn't there, nothing is said: they aren't a
-- store's that only grows.
pub record MayTellOfRead (objects : Objects) (schema : Schema) (entries : List Entry) (job : SourceJob) (before talk : Talk) (answer : Result ReadRows TailFault) : Type 0 where
  pub lost : answer ≡ Err read_faults.Lost → ends_lost talk ≡ true
  pub told : (listed : Objects) → WasListed objects before talk listed → TellsOfListed schema (take (next_version talk) entries) job answer
