-- Which data files are too large to be read, and that one that is told so is.
use Rattle.std.specs.Prelude.{◌≡◌, ◌<◌, ℕ, List, Err, string_bytes}
use Rattle.delta_actions.specs.Action.{Action, AddAction}
use Rattle.delta_actions.specs.Commit.{IsCommit}
use Rattle.delta_actions.specs.Names.{data_file_name}
use Rattle.parquet_footer.specs.declared.fault.FileError.{FileError}
use Rattle.parquet_footer.specs.declared.fault.FileError.TheVariants as files
use Rattle.parquet_footer.specs.declared.fault.FileFault.TheVariants as faults
use Rattle.parquet_file.specs.Reading.{rows_at}
use Rattle.store_core.specs.Names.{commit_name}
use Rattle.store_core.specs.Objects.{Objects}
use Rattle.table_check.specs.Below.{IsSoundBelow}
use Rattle.table_model.specs.Table.{creation}
use Rattle.table_store.specs.Commits.{IsCommitOf, without_commit_info}
use Rattle.table_store.specs.Groups.{added, numbers}
use Rattle.table_store.specs.Holds.{Stands}
use Rattle.table_store.specs.Schema.{Schema}
use Rattle.table_audit.specs.Reasons.{AreTogether}
use Rattle.table_audit.specs.declared.fault.AuditError.{AuditError}
use Rattle.table_audit.specs.declared.fault.AuditError.TheVariants.{Lost, Memory, TooLarge}

-- ---- which bytes

-- bytes are too large to be read as a file of a schema's table: P9 is the first fault in the order of the tests
abbrev pub IsLarge : Schema → (bytes : List ℕ) → Type 0
IsLarge schema bytes = rows_at bytes schema ≡ Err faults.TooLarge

-- so are those that stand under a name
abbrev pub StandsLarge : Objects → Schema → (name : List ℕ) → Type 0
StandsLarge objects schema name = Stands objects name (IsLarge schema)

-- where bytes aren't read for a fault, they are too large
abbrev pub IsByLarge : Schema → (bytes : List ℕ) → FileError → Type 0
IsByLarge schema bytes files.Memory = Unit {0}
IsByLarge schema bytes (files.Fault fault) = IsLarge schema bytes

-- ---- which names

-- a file is added under a name, which is that of a number's file: it has to hold the number's batch
abbrev pub IsToHold : List ℕ × ℕ → AddAction → (name : List ℕ) → Type 0
IsToHold n file name = (file.path.key ≡ name) × (data_file_name n.0 n.1 ≡ name)

-- one of files is, in the place of one of numbers
abbrev pub AreToHold : List (List ℕ × ℕ) → List AddAction → (name : List ℕ) → Type 0
AreToHold ns files name = (n : List ℕ × ℕ) × (file : AddAction) × AreTogether ns files n file × IsToHold n file name

-- bytes are a commit's, whose actions add a file under a name that has to hold a batch of theirs
abbrev pub AddsFile : (bytes name : List ℕ) → Type 0
AddsFile bytes name = (actions : List Action) × IsCommit bytes actions × AreToHold (numbers (without_commit_info actions)) (added (without_commit_info actions)) name

-- under none of these names stands what is too large
abbrev pub AreSmall : Objects → Schema → (names : List ℕ → Type 0) → Type 0
AreSmall objects schema names = (name : List ℕ) → names name → StandsLarge objects schema name → ⊥

-- ---- a file of a table

-- The first commit creates a table. A version's commit adds a file under a name that has to hold a batch, and what stands
-- under it is too large to be read as a file of the table.
pub record IsLargeAt (objects : Objects) (version : ℕ) (name : List ℕ) : Type 0 where
  pub schema : Schema
  pub created : Stands objects (commit_name 0) (IsCommitOf schema creation)
  pub adds : Stands objects (commit_name version) (λ bytes. AddsFile bytes name)
  pub large : StandsLarge objects schema name

-- no version below one has such a file
abbrev pub HasNoLargeBelow : Objects → (version : ℕ) → Type 0
HasNoLargeBelow objects version = (at : ℕ) (name : List ℕ) → at < version → IsLargeAt objects at name → ⊥

-- What comes below a version is sound, no version below it has a file that is too large, and this one has.
pub record IsLargeFile (objects : Objects) (version : ℕ) (name : List ℕ) : Type 0 where
  pub below : IsSoundBelow objects version
  pub first : HasNoLargeBelow objects version
  pub file : IsLargeAt objects version name

-- so it is of some version
abbrev pub HasLargeFile : Objects → (name : List ℕ) → Type 0
HasLargeFile objects name = (version : ℕ) × IsLargeFile objects version name

-- ---- what is told

-- A file that is told as too large is, as one of a schema's table. The version that is told is this one, and the name is
-- one of these.
abbrev pub TellsLarge : Objects → Schema → (version : ℕ) → (names : List ℕ → Type 0) → AuditError → Type 0
TellsLarge objects schema version names Lost = Unit {0}
TellsLarge objects schema version names Memory = Unit {0}
TellsLarge objects schema version names (TooLarge at name) = (at ≡ version) × names (string_bytes name) × StandsLarge objects schema (string_bytes name)

-- a file that is told as too large is, as one of the table, in the commit of the version that is told
abbrev pub TellsLargeFile : Objects → AuditError → Type 0
TellsLargeFile objects Lost = Unit {0}
TellsLargeFile objects Memory = Unit {0}
TellsLargeFile objects (TooLarge version name) = IsLargeFile objects version (string_bytes name)

-- no file is told as too large
abbrev pub TellsNoFile : AuditError → Type 0
TellsNoFile Lost = Unit {0}
TellsNoFile Memory = Unit {0}
TellsNoFile (TooLarge version name) = ⊥
