-- A data file that is told as too large is.
use Rattle.std.proofs.Common.{◌≡◌, ℕ, List, Result, Ok, Err, Some, string_bytes, sym, ap, subst, ◌∙◌}
use Rattle.delta_actions.specs.Action.{Action}
use Rattle.delta_actions.specs.Commit.{IsCommit}
use Rattle.row_core.specs.Rows.{Row}
use Rattle.parquet_footer.specs.declared.fault.FileFault.{FileFault}
use Rattle.parquet_file.specs.Reading.{part_read}
use Rattle.schema_tree.specs.Schema.{tree_of}
use Rattle.store_core.specs.Names.{commit_name}
use Rattle.store_core.specs.Objects.{Objects, object_at}
use Rattle.table_check.specs.Below.{AreCheckpointsSoundBelow}
use Rattle.table_store.specs.Commits.{without_commit_info}
use Rattle.table_store.specs.Groups.{added, numbers}
use Rattle.table_store.specs.Schema.{Schema}
use Rattle.table_audit.specs.LargeFiles.{AddsFile, AreToHold, HasNoLargeBelow, IsLarge, IsLargeFile, StandsLarge, TellsLarge, TellsLargeFile, TellsNoFile}
use Rattle.table_audit.specs.Walks.{IsWalk}
use Rattle.table_audit.specs.declared.fault.AuditError.{AuditError}
use Rattle.table_audit.specs.declared.fault.AuditError.TheVariants.{Lost, Memory, TooLarge}
use Rattle.table_audit.specs.declared.walk.Walk.{Walk}
use Rattle.table_audit.proofs.EndParts.{sound_next}

-- where no part of the rows is read, they aren't
pub part_stops : (first most : ℕ) (fault : FileFault) (read : Result (List Row) FileFault) → part_read first most read ≡ Err fault → read ≡ Err fault
part_stops first most fault (Ok rows) stops = absurd cc
part_stops first most fault (Err other) stops = let same : other ≡ fault = cc in ap (λ (f : FileFault). Err f) same

-- what was read under a name stands there
pub told_large : (objects : Objects) (schema : Schema) (name told items bytes : List ℕ) → object_at objects name ≡ Some items → bytes ≡ items → told ≡ name → IsLarge schema bytes → StandsLarge objects schema told
told_large objects schema name told items bytes there same is large = (items, ap (object_at objects) is ∙ there, subst (IsLarge schema) same large)

-- the name that is told is one of others, too
pub large_named : (objects : Objects) (schema : Schema) (version : ℕ) (P Q : List ℕ → Type 0) → ((name : List ℕ) → P name → Q name) → (error : AuditError) → TellsLarge objects schema version P error → TellsLarge objects schema version Q error
large_named objects schema version P Q follows Lost told = tt
large_named objects schema version P Q follows Memory told = tt
large_named objects schema version P Q follows (TooLarge at name) told = (told.0, follows (string_bytes name) told.1, told.2)

-- of a commit's actions, seen beside what only tells of it
pub adds_beside : (bytes name : List ℕ) (made beside : List Action) → IsCommit bytes made → beside ≡ without_commit_info made → AreToHold (numbers beside) (added beside) name → AddsFile bytes name
adds_beside bytes name made beside lines is holds = (made, lines, subst (λ (actions : List Action). AreToHold (numbers actions) (added actions) name) is holds)

-- none is told
pub none_told : (objects : Objects) (error : AuditError) → TellsNoFile error → TellsLargeFile objects error
none_told objects Lost none = tt
none_told objects Memory none = tt
none_told objects (TooLarge version name) none = absurd none

-- a walk's next commit adds it
pub large_next : (objects : Objects) (walk : Walk) → IsWalk objects walk → (version : ℕ) → version ≡ walk.next → AreCheckpointsSoundBelow objects version → (bytes : List ℕ) → object_at objects (commit_name version) ≡ Some bytes
    → (error : AuditError) → TellsLarge objects (tree_of walk.schema) version (AddsFile bytes) error → TellsLargeFile objects error
large_next objects walk is version same below bytes there Lost told = tt
large_next objects walk is version same below bytes there Memory told = tt
large_next objects walk is version same below bytes there (TooLarge at name) told =
    subst (λ (v : ℕ). IsLargeFile objects v (string_bytes name)) (sym told.0) (record {
      below = sound_next objects walk is version same below;
      first = subst (HasNoLargeBelow objects) (sym same) is.small;
      file = record { schema = tree_of walk.schema; created = is.walked.stand.0; adds = (bytes, there, told.1); large = told.2 };
    })
