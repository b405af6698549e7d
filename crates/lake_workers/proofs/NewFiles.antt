-- What stands in a sound store: under a commit's name its commit, and the files that its commits bring.
use Rattle.std.proofs.Common.{◌≡◌, ◌∙◌, ◌+◌, ◌<◌, ◌≤◌, ℕ, zero, suc, List, [], ◌∷◌, length, map, slice_index_or, Contains, Option, None, Some, IsSome, refl, sym, ap, subst, arith}
use Rattle.std.specs.List.{AllByRecursion}
use Rattle.std.specs.Prelude.{slice_get}
use Rattle.store_core.specs.Names.{commit_name, greatest_version}
use Rattle.store_core.specs.Objects.{Objects, object_at}
use Rattle.delta_actions.specs.Action.{Action, AddAction}
use Rattle.delta_actions.specs.In.{new_files}
use Rattle.delta_actions.specs.Kinds.{PathAndKey}
use Rattle.table_log.specs.Counts.{commit_count}
use Rattle.table_log.specs.Versions.{Version, commit, missing, version_at, version_by, version_read, versions_from}
use Rattle.table_log.proofs.Callers.{of_commit}
use Rattle.table_model.specs.Table.{Batch, Entry, close, creation, group}
use Rattle.table_store.specs.Commits.{StandFor, without_commit_info}
use Rattle.table_store.specs.Groups.{AreFilesOf, added, numbers}
use Rattle.table_store.specs.Holds.{FileStands, FilesStand}
use Rattle.table_store.specs.Schema.{Schema}
use Rattle.table_store.specs.Sound.{IsSound}
use Rattle.table_store.proofs.GivenFiles.{batch_files}
use Rattle.table_store.proofs.HoldingLogs.{AreFilesOf-new, new_files-added, new_files-without_commit_info, paths_of}
use Rattle.table_store.proofs.HoldingOne.{named}
use Rattle.source_core.specs.SourceSessions.{HasNewFiles}
use Rattle.session_laws.proofs.Callers.{IsEntryAt, entry_at, within_table}
use Rattle.log_book.proofs.Callers.{count_fits}

-- ---- the files of an entry

module _ (objects : Objects) (schema : Schema) where
  -- files that stand for batches stand
  paths_stand : (bs : List Batch) (files : List AddAction) → AreFilesOf (map named bs) files → AllByRecursion (FileStands objects schema) bs → (path : PathAndKey) (k : ℕ) → k < length (paths_of files) → slice_index_or (paths_of files) k path ≡ path
      → IsSome (object_at objects path.key)
  paths_stand bs [] are stand path k low is = absurd (omega (arith, low))
  paths_stand [] (file ∷ files) are stand path k low is = absurd are
  paths_stand (b ∷ bs) (file ∷ files) are stand path zero low is = subst (λ (p : PathAndKey). IsSome (object_at objects p.key)) is (rw (are.0, stand.0.1) refl)
  paths_stand (b ∷ bs) (file ∷ files) are stand path (suc k) low is = paths_stand bs files are.2 stand.1 path k (omega (arith, low)) is

  beside_stand : (entry : Entry) (beside : List Action) → StandFor schema entry beside → FilesStand objects schema entry → (path : PathAndKey) → Contains (new_files beside) path → IsSome (object_at objects path.key)
  beside_stand creation beside stand files path among = let none : Contains [] path = rw stand.actions at among in absurd (omega (arith, none.1))
  beside_stand (group bs) beside stand files path among =
      let new : new_files beside ≡ paths_of (added beside) = new_files-added beside (AreFilesOf-new (numbers beside) (added beside) stand.files) in
      let are : AreFilesOf (map named bs) (added beside) = subst (λ (ns : List (List ℕ × ℕ)). AreFilesOf ns (added beside)) stand.numbered stand.files in
      let here : Contains (paths_of (added beside)) path = subst (λ (paths : List PathAndKey). Contains paths path) new among in
      paths_stand bs (added beside) are (batch_files objects schema (group bs) files) path here.0 here.1 here.2
  beside_stand (close application) beside stand files path among = let none : Contains [] path = rw stand.actions at among in absurd (omega (arith, none.1))

-- ---- those of a log

-- what stands at a version
at_version : (objects : Objects) (count from place version : ℕ) (found : Version) → version ≡ from + place → slice_get (versions_from count from objects) place ≡ Some found → (place < count) × (version_at objects version ≡ found)
unfolding versions_from
at_version objects zero from place version found here is = absurd cc
at_version objects (suc count) from zero version found here is =
    let same : version_at objects from ≡ found = cc in
    let first : version ≡ from = omega (arith, here) in
    (omega arith, ap (version_at objects) first ∙ same)
at_version objects (suc count) from (suc place) version found here is =
    let rest = at_version objects count (from + 1) place version found (omega (arith, here)) is in
    (omega (arith, rest.0), rest.1)

module _ (objects : Objects) (sound : IsSound objects) (version : ℕ) (bytes : List ℕ) (small : version ≤ greatest_version) (stands : object_at objects (commit_name version) ≡ Some bytes) where
  -- an entry of the table
  pub the_entry : IsEntryAt objects sound.schema sound.entries version version
  the_entry =
      let from : 0 + version ≡ version = omega arith in
      subst (λ (v : ℕ). IsEntryAt objects sound.schema sound.entries version v) from (entry_at objects sound.schema 0 version sound.entries sound.holds (within_table objects sound.schema sound.entries sound sound.holds version bytes small stands))

  -- in a sound store whatever stands under a commit's name is its commit
  pub commit_read : version_by (Some bytes) ≡ commit the_entry.stands.2.actions
  commit_read = sym (ap version_by stands) ∙ (ap version_by the_entry.stands.1 ∙ ap version_read (of_commit the_entry.stands.0 the_entry.stands.2.actions the_entry.stands.2.commit))

  entry_files : (path : PathAndKey) → Contains (new_files the_entry.stands.2.actions) path → IsSome (object_at objects path.key)
  entry_files path among =
      let beside : Contains (new_files (without_commit_info the_entry.stands.2.actions)) path = subst (λ (paths : List PathAndKey). Contains paths path) (sym (new_files-without_commit_info the_entry.stands.2.actions)) among in
      beside_stand objects sound.schema the_entry.entry (without_commit_info the_entry.stands.2.actions) the_entry.stands.2.stand the_entry.files path beside

-- The files of a sound store's table stand.
pub sound_files : (objects : Objects) → IsSound objects → (first : ℕ) → HasNewFiles first objects
sound_files objects sound first name new = by_found (object_at objects (commit_name new.version)) refl
  where
    there : (new.version < commit_count objects) × (version_at objects new.version ≡ commit new.actions)
    there = at_version objects (commit_count objects) 0 new.version new.version (commit new.actions) (omega arith) new.stands

    by_found : (found : Option (List ℕ)) → object_at objects (commit_name new.version) ≡ found → IsSome (object_at objects name)
    by_found None is = let wrong : missing ≡ commit new.actions = sym (ap version_by is) ∙ there.1 in absurd cc
    by_found (Some bytes) is =
        let small : new.version ≤ greatest_version = omega (arith, there.0, count_fits objects sound) in
        let at = the_entry objects sound new.version bytes small is in
        let both : commit at.stands.2.actions ≡ commit new.actions = sym (commit_read objects sound new.version bytes small is) ∙ (sym (ap version_by is) ∙ there.1) in
        let same : at.stands.2.actions ≡ new.actions = cc both in
        let own : Contains (new_files at.stands.2.actions) new.path = subst (λ (m : List Action). Contains (new_files m) new.path) (sym same) new.among in
        subst (λ (n : List ℕ). IsSome (object_at objects n)) new.named (entry_files objects sound new.version bytes small is new.path own)
