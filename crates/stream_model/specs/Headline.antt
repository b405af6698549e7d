-- What is so of every world: of its store, of what was told, and of what was handed in.
use Rattle.std.specs.Prelude.{◌≡◌, ◌<◌, ℕ, List, [], ◌∷◌, ◌++◌, Contains, Some, Result, Ok, Err, length, slice_get, sum_by, take, true}
use Rattle.session_core.specs.Talks.{Talk}
use Rattle.row_core.specs.Rows.{Row}
use Rattle.row_core.specs.Views.{row_views}
use Rattle.schema_tree.specs.Schema.{tree_of}
use Rattle.table_log.specs.Counts.{count_in}
use Rattle.table_log.specs.declared.fault.LogFault.TheVariants as load_faults
use Rattle.delta_replay.specs.declared.support.SupportFault.{SupportFault}
use Rattle.snapshot_core.specs.declared.checkpoint_session.CheckpointEnd.{CheckpointEnd}
use Rattle.snapshot_core.specs.declared.fault.SnapshotFault.TheVariants as checkpoint_faults
use Rattle.table_model.specs.Appends.{TellsClose}
use Rattle.table_model.specs.Lawful.{IsLawful}
use Rattle.table_model.specs.Reads.{IsPart, IsPlace, position}
use Rattle.table_model.specs.Resumed.{beginning}
use Rattle.table_model.specs.Table.{Batch, Entry, batches, rows}
use Rattle.table_model.specs.declared.table.AppendAnswer.TheVariants as appended
use Rattle.table_model.specs.declared.table.Closing.TheVariants as closed
use Rattle.table_model.specs.declared.reading.Offset.{Offset}
use Rattle.table_store.specs.Schema.{Schema}
use Rattle.batch_core.specs.declared.fault.SinkFault.{SinkFault}
use Rattle.batch_core.specs.declared.fault.SinkFault.TheVariants as faults
use Rattle.sink_core.specs.SinkSessions.{SinkJob, closes}
use Rattle.sink_core.specs.declared.sink_state.SinkEnd.{SinkEnd}
use Rattle.sink_core.specs.declared.sink_state.SinkOutcome.{SinkOutcome}
use Rattle.sink_core.specs.declared.sink_state.SinkOutcome.TheVariants.{Already, AlreadyClosed, Closed, Committed}
use Rattle.log_offsets.specs.Offsets.{offset_view}
use Rattle.source_core.specs.SourceSessions.{SourceJob}
use Rattle.log_rows.specs.declared.read_state.ReadRows.{ReadRows}
use Rattle.log_rows.specs.declared.tail_fault.TailFault.{TailFault}
use Rattle.source_core.specs.declared.source_session.ReadEnd.{ReadEnd}
use Rattle.log_rows.specs.declared.tail_fault.TailFault.TheVariants as read_faults
use Rattle.session_laws.specs.Readers.{next_told, rows_told}
use Rattle.session_laws.specs.Rows.{IsBatchOf, ListsFirst, TellsOfBatch, TellsOfListed}
use Rattle.session_laws.specs.Jobs.{Job, Outcome, item_answers, checkpoint, load, read, reads, stream}
use Rattle.session_laws.specs.Moves.{ends_lost}
use Rattle.stream_model.specs.Events.{Event}
use Rattle.stream_model.specs.Puts.{IsSubmittedBatch, Submitted, WasCreated}

-- ---- refusals that don't come

-- it listed the names first, and a commit was among them
abbrev pub ListsCommit : Talk → Type 0
ListsCommit talk = (names : List (List ℕ)) × ListsFirst talk names × (0 < count_in names)

-- the outcome tells that a version's commit is missing or can't be read
pub data TellsBadLog : Outcome → Type 0 where
  bad_load : (version : ℕ) → TellsBadLog (load (Err (load_faults.BadLog version)))
  bad_checkpoint : (end : CheckpointEnd) (version : ℕ) → end.answer ≡ Err (checkpoint_faults.BadLog version) → TellsBadLog (checkpoint end)
  bad_stream : (end : SinkEnd) (version : ℕ) → end.answer ≡ Err (faults.BadLog version) → TellsBadLog (stream end)

-- What a read told that listed these names is so of the table's first versions, as many as were listed, which all stand: by its schema a part of
-- them, or why the offset is none of theirs, and where no commit was listed that version 0 is missing. That a call was lost it told only right behind
-- one that was, and that memory ran out at any time.
pub record IsReadSo (schema : Schema) (entries : List Entry) (job : SourceJob) (talk : Talk) (names : List (List ℕ)) (answer : Result ReadRows TailFault) : Type 0 where
  pub stand : length (take (count_in names) entries) ≡ count_in names
  pub told : TellsOfListed schema (take (count_in names) entries) job answer
  pub lost : answer ≡ Err read_faults.Lost → ends_lost talk ≡ true

-- that a winner changed the table's schema
pub data TellsSchemaChanged : Outcome → Type 0 where
  changed : (end : SinkEnd) (version : ℕ) → end.answer ≡ Err (faults.SchemaChanged version) → TellsSchemaChanged (stream end)

-- that the table is one whose checkpoint isn't put
pub data TellsUnsupported : Outcome → Type 0 where
  unsupported : (end : CheckpointEnd) (fault : SupportFault) → end.answer ≡ Err (checkpoint_faults.Unsupported fault) → TellsUnsupported (checkpoint end)

-- ---- what is so of the table

-- of this append or close, an item of some job, this was told
abbrev pub WasAnswered : List (Job × Outcome) → SinkJob → Result SinkOutcome SinkFault → Type 0
WasAnswered outs item answer = (job : Job) × (outcome : Outcome) × Contains outs (job, outcome) × Contains (item_answers job outcome) (item, answer)

-- What was told of a batch or a close is so of the table: that it was put as a version, stands already, is below a number that
-- stands, or comes behind the close of its stream; of a close only where it was one. Of other refusals nothing is said here.
abbrev pub IsSoOf : Schema → List Entry → SinkJob → Result SinkOutcome SinkFault → Type 0
IsSoOf schema entries item (Ok (Committed version)) = TellsOfBatch schema entries item (appended.Committed version)
IsSoOf schema entries item (Ok (Already number)) = TellsOfBatch schema entries item (appended.Already number)
IsSoOf schema entries item (Ok (Closed version)) = (item.task ≡ closes) × TellsClose (closed.Closed version) item.application entries
IsSoOf schema entries item (Ok AlreadyClosed) = (item.task ≡ closes) × TellsClose closed.AlreadyClosed item.application entries
IsSoOf schema entries item (Err (faults.Stale last)) = TellsOfBatch schema entries item (appended.Stale last)
IsSoOf schema entries item (Err faults.StreamClosed) = TellsOfBatch schema entries item appended.StreamClosed
IsSoOf schema entries item (Err fault) = Unit {0}

-- What a read handed out is a part of the table, which has a version, from its offset up to where the next read begins, and the table's schema
-- with it. A refused one hands out nothing.
abbrev pub IsPartOfTable : Schema → List Entry → SourceJob → Result ReadRows TailFault → Type 0
IsPartOfTable schema [] job (Ok handed) = ⊥
IsPartOfTable schema (first ∷ rest) job (Ok handed) = (tree_of handed.schema.schema ≡ schema) × IsPart job.max job.place (row_views handed.rows.items) (offset_view handed.next) (first ∷ rest)
IsPartOfTable schema entries job (Err fault) = Unit {0}

-- the answer tells that the batch stands: it was committed, or stood already
pub data Acknowledges : Result SinkOutcome SinkFault → Type 0 where
  committed : (version : ℕ) → Acknowledges (Ok (Committed version))
  already : (number : ℕ) → Acknowledges (Ok (Already number))

-- no two places of a list have batches of one application and number
abbrev pub StandOnce : List Batch → Type 0
StandOnce bs = (place other : ℕ) (b c : Batch) → slice_get bs place ≡ Some b → slice_get bs other ≡ Some c → b.application ≡ c.application → b.number ≡ c.number → place ≡ other

-- ---- readers

-- Reads that were told, whoever made them, each from where the one before ended, the first from this offset: what a reader does that resumes
-- at its last offset. A read that is refused leaves its offset, as one does that lost a call; one that was dropped isn't told.
abbrev pub Resume : List (Job × Outcome) → Offset → List (SourceJob × ReadEnd) → Type 0
Resume outs offset [] = Unit {0}
Resume outs offset (one ∷ later) = Contains outs (reads one.0, read one.1) × (one.0.place ≡ offset) × Resume outs (next_told offset one.1.answer) later

-- the rows that they handed out, in order
abbrev pub all_rows_handed : List (SourceJob × ReadEnd) → List Row
all_rows_handed [] = []
all_rows_handed (one ∷ later) = rows_told one.1.answer ++ all_rows_handed later

-- the offset that was returned last, and the first one where none was
abbrev pub last_offset : Offset → List (SourceJob × ReadEnd) → Offset
last_offset offset [] = offset
last_offset offset (one ∷ later) = last_offset (next_told offset one.1.answer) later

-- how many rows they were to hand out at most
abbrev pub most_rows : List (SourceJob × ReadEnd) → ℕ
most_rows those = sum_by (λ (one : SourceJob × ReadEnd). one.0.max) those

-- What a reader was handed that began at the beginning is the table's first rows, as many as stand before its last offset; of one that began
-- at another of the table's offsets, the rows from there up to its last. Each once, in the order of the log.
pub record HandsOutTheLog (outs : List (Job × Outcome)) (entries : List Entry) : Type 0 where
  pub from_beginning : (those : List (SourceJob × ReadEnd)) → Resume outs beginning those → all_rows_handed those ≡ take (position (last_offset beginning those) entries) (rows entries)
  pub from_offset : (offset : Offset) (those : List (SourceJob × ReadEnd)) → IsPlace offset entries → Resume outs offset those → IsPart (most_rows those) offset (all_rows_handed those) (last_offset offset those) entries

-- Of the table that a store holds: it was created as a job asked that was handed in; each batch stands once, each application's numbers rise,
-- and none of it stands behind its close; each batch that was acknowledged was handed in, and stands; each batch that stands was
-- handed in, with these rows; what was told of a batch or a close is so, of the answers that `IsSoOf` speaks of; each read that
-- wasn't refused handed out a part of the table with its schema, and readers that resume at their last offset its rows up to there.
pub record IsHeadline (events : List Event) (outs : List (Job × Outcome)) (schema : Schema) (entries : List Entry) : Type 0 where
  pub created : WasCreated events schema entries
  pub once : StandOnce (batches entries)
  pub lawful : IsLawful entries
  pub acknowledged : (item : SinkJob) (answer : Result SinkOutcome SinkFault) → WasAnswered outs item answer → Acknowledges answer → Submitted events item × (b : Batch) × IsBatchOf schema item b × Contains (batches entries) b
  pub submitted : (b : Batch) → Contains (batches entries) b → IsSubmittedBatch events schema b
  pub told : (item : SinkJob) (answer : Result SinkOutcome SinkFault) → WasAnswered outs item answer → IsSoOf schema entries item answer
  pub parts : (job : SourceJob) (end : ReadEnd) → Contains outs (reads job, read end) → IsPartOfTable schema entries job end.answer
  pub handed : HandsOutTheLog outs entries
