-- What the laws of a sink's sessions say of stores.
use Rattle.std.specs.Prelude.{◌≡◌, ◌≤◌, ℕ, suc, List, [], ◌∷◌, length, true, Option, None, Some, Result, Ok, Err}
use Rattle.serde_json.specs.Data.{Items}
use Rattle.store_core.specs.Objects.{Objects, object_at}
use Rattle.store_core.specs.declared.store.Put.TheVariants.{Exists}
use Rattle.store_core.specs.Names.{commit_name}
use Rattle.session_core.specs.Talks.{Talk, put_commit, told_put}
use Rattle.row_core.specs.Rows.{Row}
use Rattle.schema_tree.specs.Tree.{Tree}
use Rattle.delta_actions.specs.Action.{Action}
use Rattle.delta_replay.specs.Keys.{last_number}
use Rattle.delta_replay.specs.Support.{writable}
use Rattle.table_log.specs.Counts.{commit_count}
use Rattle.table_log.specs.Loads.{IsFrom, replayed_below}
use Rattle.table_log.specs.Restoring.{Restored}
use Rattle.commit_core.specs.Commits.{commit_text}
use Rattle.batch_core.specs.Closing.{close_actions}
use Rattle.batch_core.specs.Committing.{batch_actions}
use Rattle.batch_core.specs.Requests.{IsWrittenFor, has_same}
use Rattle.batch_core.specs.RowsIn.{rows_from}
use Rattle.batch_core.specs.declared.fault.SinkFault.{SinkFault}
use Rattle.batch_core.specs.declared.fault.SinkFault.TheVariants as faults
use Rattle.sink_core.specs.SinkSessions.{SinkJob, SinkTask, appends, closes, file_of}
use Rattle.sink_core.specs.declared.sink_state.SinkOutcome.{SinkOutcome}
use Rattle.sink_core.specs.declared.sink_state.SinkOutcome.TheVariants.{Committed, Closed}

-- This was so of a store's log at one of its versions, the one below `next`: of all commits up to it; or of the actions of a checkpoint
-- and of the commits behind that, up to it. Each of them stands.
pub record WasSo (objects : Objects) (P : List (List Action) → Type 0) : Type 0 where
  pub next : ℕ
  pub within : next ≤ commit_count objects
  pub checkpoint : Option (List ℕ)
  pub restored : Option Restored
  pub from : IsFrom objects next checkpoint restored
  pub log : List (List Action)
  pub read : replayed_below next restored objects ≡ Ok log
  pub holds : P log

-- the table was written by this schema at one of its versions
abbrev pub HadSchema : Objects → Tree → Type 0
HadSchema objects schema = WasSo objects (λ log. writable log ≡ Ok schema)

-- A file stands under a name that is one of the rows which the items spell for a schema that the table had: written for them, or read
-- as them.
pub record FileOfItems (objects : Objects) (name : List ℕ) (items : Items) (size rows : ℕ) : Type 0 where
  pub schema : Tree
  pub had : HadSchema objects schema
  pub values : List Row
  pub spelled : rows_from 0 schema items ≡ Ok values
  pub count : rows ≡ length values
  pub bytes : List ℕ
  pub stands : object_at objects name ≡ Some bytes
  pub sized : size ≡ length bytes
  pub same : has_same schema values (Some bytes) ≡ true

-- The commit of an append is that of its batch, with the size and the count of rows of the file that stands; that of a close closes
-- its stream.
abbrev pub IsCommitOfJob : Objects → SinkJob → List ℕ → Type 0
IsCommitOfJob objects job bytes = by_task job.task
  where
    by_task : SinkTask → Type 0
    by_task (appends number items) = (size : ℕ) × (rows : ℕ) × (bytes ≡ commit_text (batch_actions job.application number job.at size rows)) × FileOfItems objects (file_of job number) items size rows
    by_task closes = bytes ≡ commit_text (close_actions job.application job.at)

-- The file of an append is written for its rows, as they are spelled for a schema that the table had, under the batch's name; a close
-- has none.
abbrev pub IsFileOfJob : Objects → SinkJob → (name bytes : List ℕ) → Type 0
IsFileOfJob objects job name bytes = by_task job.task
  where
    by_task : SinkTask → Type 0
    by_task (appends number items) = (schema : Tree) × (rows : List Row) × HadSchema objects schema × (rows_from 0 schema items ≡ Ok rows) × IsWrittenFor schema rows bytes × (name ≡ file_of job number)
    by_task closes = ⊥

-- the commit of that version was put
abbrev pub TellsCommit : Result SinkOutcome SinkFault → (version : ℕ) → Type 0
TellsCommit (Ok (Committed at)) version = at ≡ version
TellsCommit (Ok (Closed at)) version = at ≡ version
TellsCommit answer version = ⊥

-- The answer is told only where the rules were applied to a log that was loaded or known.
abbrev pub IsBehindRules : Result SinkOutcome SinkFault → Type 0
IsBehindRules (Err faults.BadApp) = ⊥
IsBehindRules (Err faults.TooLarge) = ⊥
IsBehindRules (Err (faults.BadLog version)) = ⊥
IsBehindRules (Err (faults.Lost None)) = ⊥
IsBehindRules (Err faults.Memory) = ⊥
IsBehindRules answer = Unit {0}

-- its commit stands at that version
abbrev pub IsCommittedIn : Objects → SinkJob → (version : ℕ) → Type 0
IsCommittedIn objects job version = (bytes : List ℕ) × (object_at objects (commit_name version) ≡ Some bytes) × IsCommitOfJob objects job bytes

-- The batch of that number is the job's; its number was the last one of the application at some version of the table; and a file of its
-- rows stands under its name.
abbrev pub BatchStandsIn : Objects → SinkJob → (number : ℕ) → Type 0
BatchStandsIn objects job number =
    (items : Items) × (job.task ≡ appends number items) × WasSo objects (λ log. last_number job.application log ≡ Some number) × ((size : ℕ) × (rows : ℕ) × FileOfItems objects (file_of job number) items size rows)

-- how many puts of a commit found their version taken
abbrev pub versions_taken : Talk → ℕ
versions_taken [] = 0
versions_taken ((put_commit version bytes, told_put Exists) ∷ talk) = suc (versions_taken talk)
versions_taken (call ∷ talk) = versions_taken talk
