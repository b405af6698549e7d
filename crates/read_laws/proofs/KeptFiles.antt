-- A store that keeps a table has the files that its commits bring.
use Rattle.std.proofs.Common.{◌≡◌, ◌<◌, ◌∙◌, ℕ, zero, suc, List, [], ◌∷◌, length, map, slice_index_or, Contains, Option, Some, None, IsSome, Ok, refl, sym, ap, subst, arith}
use Rattle.std.specs.Prelude.{slice_get}
use Rattle.store_core.specs.Objects.{Objects, object_at}
use Rattle.delta_actions.specs.Action.{Action}
use Rattle.delta_actions.specs.Kinds.{PathAndKey}
use Rattle.outcomes.specs.Results.{◌>>=◌, or_refusal}
use Rattle.row_core.specs.Rows.{Row}
use Rattle.schema_tree.specs.Tree.{Tree}
use Rattle.table_log.specs.Versions.{Version, commit}
use Rattle.table_model.specs.Table.{Entry}
use Rattle.source_core.specs.Groups.{new_files}
use Rattle.source_core.specs.SourceSessions.{HasNewFiles}
use Rattle.source_core.specs.Tailing.{file_rows, missing_file, or_bad_file}
use Rattle.source_core.proofs.Callers.{AreEntriesFound, AreFilesFound}
use Rattle.source_core.specs.ParquetReading.{rows_at}
use Rattle.read_laws.specs.Kept.{KeepsTable}
use Rattle.read_laws.proofs.KeptLog.{are_made, made_of}
use Rattle.read_laws.proofs.KeptTail.{entries_found}
use Rattle.read_laws.proofs.KeptVersions.{versions_kept}

module _ (objects : Objects) (schema : Tree) where
  -- a file whose rows are read stands
  read_stands : (path : PathAndKey) (rows : List Row) (found : Option (List ℕ)) → object_at objects path.key ≡ found
      → (or_refusal found (missing_file path.text) >>= λ bytes. or_bad_file (record { version = 0; file = 0; path = path }) (rows_at bytes schema)) ≡ Ok rows → IsSome (object_at objects path.key)
  read_stands path rows None is reads = absurd cc
  read_stands path rows (Some bytes) is reads = rw is refl

  rows_stand : (path : PathAndKey) (rows : List Row) → file_rows objects schema (record { version = 0; file = 0; path = path }) ≡ Ok rows → IsSome (object_at objects path.key)
  unfolding file_rows
  rows_stand path rows reads = read_stands path rows (object_at objects path.key) refl reads

  -- so does each of a commit
  file_stands : (paths : List PathAndKey) (rows : List (List Row)) → AreFilesFound objects schema paths rows → (path : PathAndKey) (k : ℕ) → k < length paths → slice_index_or paths k path ≡ path → IsSome (object_at objects path.key)
  file_stands [] rows found path k low is = absurd (omega (arith, low))
  file_stands (first ∷ paths) [] found path k low is = absurd found
  file_stands (first ∷ paths) (r ∷ rows) found path zero low is = subst (λ (p : PathAndKey). IsSome (object_at objects p.key)) is (rows_stand first r (found.0 0 0))
  file_stands (first ∷ paths) (r ∷ rows) found path (suc k) low is = file_stands paths rows found.1 path k (omega (arith, low)) is

  -- and each of a log
  log_stands : (entries : List Entry) (commits : List (List Action)) → AreEntriesFound objects schema entries commits → (version : ℕ) (actions : List Action) → slice_get (map commit commits) version ≡ Some (commit actions)
      → (path : PathAndKey) → Contains (new_files actions) path → IsSome (object_at objects path.key)
  log_stands [] [] found version actions is path among = absurd cc
  log_stands [] (first ∷ commits) found version actions is path among = absurd found
  log_stands (entry ∷ entries) [] found version actions is path among = absurd cc
  log_stands (entry ∷ entries) (first ∷ commits) found zero actions is path among =
      let one : first ≡ actions = cc in
      let here : Contains (new_files first) path = subst (λ (made : List Action). Contains (new_files made) path) (sym one) among in
      file_stands (new_files first) _ found.0 path here.0 here.1 here.2
  log_stands (entry ∷ entries) (first ∷ commits) found (suc version) actions is path among = log_stands entries commits found.1 version actions is path among

-- The files of a table that is kept stand.
pub kept_files : (objects : Objects) (schema : Tree) (entries : List Entry) → KeepsTable objects schema entries → (first : ℕ) → HasNewFiles first objects
kept_files objects schema entries kept first name new =
    let commits = made_of objects schema 0 entries kept.kept in
    let found = entries_found objects schema 0 entries commits kept.kept (are_made objects schema 0 entries kept.kept) in
    let here : slice_get (map commit commits) new.version ≡ Some (commit new.actions) = ap (λ (vs : List Version). slice_get vs new.version) (sym (versions_kept objects schema entries kept)) ∙ new.stands in
    subst (λ (n : List ℕ). IsSome (object_at objects n)) new.named (log_stands objects schema entries commits found new.version new.actions here new.path new.among)
