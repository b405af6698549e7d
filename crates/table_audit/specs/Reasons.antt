-- What each reason says of objects that aren't sound: of a version, of its commit, and of the log of those before it.
use Rattle.std.specs.Prelude.{◌≡◌, ◌≢◌, ◌<◌, ◌≤◌, ℕ, suc, List, [], ◌∷◌, ◌++◌, length, map, true, IsSome, Some, None, Ok, Err, slice_index_or, string_bytes}
use Rattle.std.specs.List.{Contains}
use Rattle.delta_actions.specs.Action.{Action, AddAction}
use Rattle.delta_actions.specs.Commit.{IsCommit, IsFirstFault, TellsFault}
use Rattle.delta_actions.specs.Names.{data_file_name}
use Rattle.delta_actions.specs.Wrong.{Wrong}
use Rattle.delta_actions.specs.declared.fault.ActionFault.{ActionFault}
use Rattle.delta_checkpoint.specs.Checkpoints.{IsCheckpoint}
use Rattle.delta_replay.specs.Closes.{is_closed}
use Rattle.delta_replay.specs.Keys.{last_number}
use Rattle.parquet_file.specs.Reading.{rows_at}
use Rattle.parquet_footer.specs.declared.fault.FileFault.TheVariants.{TooLarge}
use Rattle.serde_json.specs.Data.{string}
use Rattle.serde_json.specs.Written.{compact_text}
use Rattle.store_core.specs.Names.{commit_name, commit_version}
use Rattle.store_core.specs.Objects.{Objects, object_at}
use Rattle.table_log.specs.Restoring.{checkpoint_version}
use Rattle.table_log.specs.Versions.{commits_in, versions_from}
use Rattle.table_model.specs.Table.{Batch, creation}
use Rattle.table_store.specs.Commits.{IsClose, IsCommitOf, IsCreation, IsGroupOf, without_commit_info}
use Rattle.table_store.specs.Groups.{added, numbers}
use Rattle.table_store.specs.Holds.{Stands}
use Rattle.table_store.specs.Schema.{Schema}
use Rattle.table_audit.specs.declared.reason.ApplicationId.{ApplicationId}
use Rattle.table_audit.specs.declared.reason.Reason.{Reason}
use Rattle.table_audit.specs.declared.reason.Reason.TheVariants.{BadCommit, NoCreation, NoEntry, Twice, NotAbove, Closed, OtherFile, NoFile, BadFile, CommitBehindGap, CheckpointBehindGap, BadCheckpoint, OtherCheckpoint}

-- what is told of an application is its id, as a JSON string
abbrev pub IsId : ApplicationId → (id : List ℕ) → Type 0
IsId application id = string_bytes application.text ≡ compact_text (string id)

-- ---- numbers

-- Why a number of an application isn't new in a log: it isn't above the one that the application has come to, or its
-- stream is closed.
abbrev pub IsOldNumber : List (List Action) → List ℕ × ℕ → Reason → Type 0
IsOldNumber log n (NotAbove number application last) = (number ≡ n.1) × IsId application n.0 × (last_number n.0 log ≡ Some last) × (number ≤ last)
IsOldNumber log n (Closed number application) = (number ≡ n.1) × IsId application n.0 × (is_closed n.0 log ≡ true)
IsOldNumber log n _ = ⊥

-- one of the numbers is of this application, and another behind it is, too
abbrev pub IsTwice : (id : List ℕ) → List (List ℕ × ℕ) → Type 0
IsTwice id ns = (front behind : List (List ℕ × ℕ)) × (number : ℕ) × (ns ≡ front ++ (id, number) ∷ behind) × Contains (map (λ n. n.0) behind) id

-- Why numbers aren't of different applications, one at least, and new in a log.
abbrev pub AreOld : List (List Action) → (version : ℕ) → List (List ℕ × ℕ) → Reason → Type 0
AreOld log version ns (NoEntry at) = (at ≡ version) × (ns ≡ [])
AreOld log version ns (Twice at application) = (at ≡ version) × ((id : List ℕ) × IsId application id × IsTwice id ns)
AreOld log version ns reason = (n : List ℕ × ℕ) × Contains ns n × IsOldNumber log n reason

-- ---- files

-- Why no file of a schema's table stands under a name: nothing does, or bytes that aren't read as one, and this is the
-- first fault in the order of the tests.
abbrev pub IsNoFile : Objects → Schema → (name : List ℕ) → Reason → Type 0
IsNoFile objects schema name (NoFile told) = (string_bytes told ≡ name) × (object_at objects name ≡ None)
IsNoFile objects schema name (BadFile told fault) = (string_bytes told ≡ name) × (fault ≢ TooLarge) × Stands objects name (λ bytes. rows_at bytes schema ≡ Err fault)
IsNoFile objects schema name _ = ⊥

-- a file that is added isn't the one of a number, or brings no new rows
abbrev pub IsOther : List ℕ × ℕ → AddAction → Type 0
IsOther n file = file.path.key ≡ data_file_name n.0 n.1 → file.data_change ≡ true → ⊥

-- Why a file that is added isn't the one of a number, or doesn't stand.
abbrev pub IsNoBatch : Objects → Schema → List ℕ × ℕ → AddAction → Reason → Type 0
IsNoBatch objects schema n file (OtherFile number application) = (number ≡ n.1) × IsId application n.0 × IsOther n file
IsNoBatch objects schema n file reason = IsNoFile objects schema (data_file_name n.0 n.1) reason

-- a number and a file that stand in the same place
abbrev pub AreTogether : List (List ℕ × ℕ) → List AddAction → List ℕ × ℕ → AddAction → Type 0
AreTogether ns files n file = (i : ℕ) × (i < length ns) × (i < length files) × (n ≡ slice_index_or ns i n) × (file ≡ slice_index_or files i file)

-- Why the files that are added aren't those of the numbers, or don't all stand.
abbrev pub AreNoFiles : Objects → Schema → (version : ℕ) → List (List ℕ × ℕ) → List AddAction → Reason → Type 0
AreNoFiles objects schema version ns files (NoEntry at) = (at ≡ version) × (length ns ≢ length files)
AreNoFiles objects schema version ns files reason = (n : List ℕ × ℕ) × (file : AddAction) × AreTogether ns files n file × IsNoBatch objects schema n file reason

-- ---- commits

-- the actions stand for no group of one batch at least
abbrev pub IsNoGroup : List Action → Type 0
IsNoGroup beside = (bs : List Batch) → bs ≢ [] → IsGroupOf bs beside → ⊥

-- the actions stand for no close
abbrev pub IsNoClose : List Action → Type 0
IsNoClose beside = (application : List ℕ) → IsClose application beside → ⊥

-- Why actions stand for no group that may follow a log, with its files.
abbrev pub IsNoNext : Objects → Schema → (version : ℕ) → List (List Action) → (beside : List Action) → Reason → Type 0
IsNoNext objects schema version log beside (NoEntry at) = (at ≡ version) × IsNoGroup beside
IsNoNext objects schema version log beside (Twice at application) = AreOld log version (numbers beside) (Twice at application)
IsNoNext objects schema version log beside (NotAbove number application last) = AreOld log version (numbers beside) (NotAbove number application last)
IsNoNext objects schema version log beside (Closed number application) = AreOld log version (numbers beside) (Closed number application)
IsNoNext objects schema version log beside reason = AreNoFiles objects schema version (numbers beside) (added beside) reason

-- The first commit creates a table, those below a version are a log, and the version's one, which is no close, has these
-- actions beside its own.
pub record IsCommitBehind (objects : Objects) (schema : Schema) (version : ℕ) (log : List (List Action)) (beside : List Action) : Type 0 where
  pub created : Stands objects (commit_name 0) (IsCommitOf schema creation)
  pub before : commits_in 0 (versions_from version 0 objects) ≡ Ok log
  pub stands : Stands objects (commit_name version) (λ bytes. (made : List Action) × IsCommit bytes made × (beside ≡ without_commit_info made))
  pub no_close : IsNoClose beside

-- this is the first fault of bytes as a commit's, with its line
abbrev pub IsUnread : ActionFault → (bytes : List ℕ) → Type 0
IsUnread fault bytes = (line : ℕ) × (wrong : Wrong) × IsFirstFault bytes line wrong × TellsFault fault line wrong

-- bytes are a commit's, and create no table
abbrev pub CreatesNothing : (bytes : List ℕ) → Type 0
CreatesNothing bytes = (made : List Action) × IsCommit bytes made × ((schema : Schema) → IsCreation schema (without_commit_info made) → ⊥)

-- ---- names

-- a version before this one has no commit
abbrev pub IsBehindGap : Objects → (version : ℕ) → Type 0
IsBehindGap objects version = (gap : ℕ) × (gap < version) × (object_at objects (commit_name gap) ≡ None)

-- Which of names are of a version: a commit's, or else a checkpoint's.
abbrev pub IsNamedBehindGap : List (List ℕ) → (version : ℕ) → Reason → Type 0
IsNamedBehindGap names version (CommitBehindGap at) = (at ≡ version) × ((name : List ℕ) × Contains names name × (commit_version name ≡ Some version))
IsNamedBehindGap names version (CheckpointBehindGap told) = Contains names (string_bytes told) × (checkpoint_version (string_bytes told) ≡ Some version)
    × ((name : List ℕ) → Contains names name → commit_version name ≡ Some version → ⊥)
IsNamedBehindGap names version _ = ⊥

-- bytes are a commit's, and not the checkpoint of a version and a log
abbrev pub IsOtherCheckpoint : (version : ℕ) → List (List Action) → (bytes : List ℕ) → Type 0
IsOtherCheckpoint version log bytes = ((made : List Action) × IsCommit bytes made) × (IsCheckpoint bytes version log → ⊥)

-- What a reason says of a version of objects.
abbrev pub IsReasonOf : Objects → (version : ℕ) → Reason → Type 0
IsReasonOf objects version (BadCommit at fault) = (at ≡ version) × Stands objects (commit_name version) (IsUnread fault)
IsReasonOf objects version NoCreation = (version ≡ 0) × Stands objects (commit_name 0) CreatesNothing
IsReasonOf objects version (CommitBehindGap at) = (at ≡ version) × IsBehindGap objects version × IsSome (object_at objects (commit_name version))
IsReasonOf objects version (CheckpointBehindGap name) = (checkpoint_version (string_bytes name) ≡ Some version) × IsSome (object_at objects (string_bytes name))
    × (object_at objects (commit_name version) ≡ None)
IsReasonOf objects version (BadCheckpoint name fault) = (checkpoint_version (string_bytes name) ≡ Some version) × Stands objects (string_bytes name) (IsUnread fault)
IsReasonOf objects version (OtherCheckpoint name) = (checkpoint_version (string_bytes name) ≡ Some version)
    × ((log : List (List Action)) × (commits_in 0 (versions_from (suc version) 0 objects) ≡ Ok log) × Stands objects (string_bytes name) (IsOtherCheckpoint version log))
IsReasonOf objects version reason = (schema : Schema) × (log : List (List Action)) × (beside : List Action) × IsCommitBehind objects schema version log beside × IsNoNext objects schema version log beside reason
