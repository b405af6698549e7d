-- The log among the objects that are loaded is that among all objects.
use Rattle.std.proofs.Common.{◌≡◌, ◌∙◌, ◌+◌, ℕ, zero, suc, Bool, true, false, List, [], ◌∷◌, Option, Some, None, cond, refl, sym, ap}
use Rattle.std.specs.Prelude.{filter}
use Rattle.store_core.specs.Objects.{Objects, names_of}
use Rattle.table_log.specs.Counts.{commit_count, count_in, count_with, next_behind}
use Rattle.store_core.specs.Names.{commit_name, commit_version}
use Rattle.store_core.proofs.Callers.{named}
use Rattle.table_log.specs.Restoring.{IsSoundCheckpoint, RestoresWell, replayed}
use Rattle.table_log.specs.Versions.{Version, commits_in, commits_of, log_of, version_at, version_by, versions_from, versions_of}
use Rattle.table_folder.specs.Loads.{is_loaded, loaded}
use Rattle.job_laws.proofs.Loaded.{commit_loaded, loaded_at, loaded_names, stands_of_loaded}

-- ---- how many versions there are

-- a name that isn't loaded is no commit's
pub no_commit_outside : (files : List (List ℕ)) (name : List ℕ) → is_loaded files name ≡ false → commit_version name ≡ None
no_commit_outside files name outside = by_case (commit_version name) refl
  where
    by_case : (found : Option ℕ) → commit_version name ≡ found → commit_version name ≡ None
    by_case None is = is
    by_case (Some version) is =
        let own : is_loaded files name ≡ true = ap (is_loaded files) (sym (named name version is).0) ∙ commit_loaded files version in
        absurd cc

-- names that aren't loaded count for nothing
count_filtered : (files names : List (List ℕ)) → count_in (filter (is_loaded files) names) ≡ count_in names
count_filtered files [] = refl
count_filtered files (n ∷ ns) = step (is_loaded files n) refl (count_filtered files ns)
  where
    step : (kept : Bool) → is_loaded files n ≡ kept → count_in (filter (is_loaded files) ns) ≡ count_in ns → count_in (cond kept (n ∷ filter (is_loaded files) ns) (filter (is_loaded files) ns)) ≡ count_with n (count_in ns)
    step true is later = ap (count_with n) later
    step false is later = later ∙ ap (λ (found : Option ℕ). next_behind found (count_in ns)) (sym (no_commit_outside files n is))

pub same_count : (files : List (List ℕ)) (objects : Objects) → commit_count (loaded files objects) ≡ commit_count objects
unfolding commit_count
same_count files objects = ap count_in (loaded_names files objects) ∙ count_filtered files (names_of objects)

-- ---- what stands at each version

pub same_version : (files : List (List ℕ)) (objects : Objects) (version : ℕ) → version_at (loaded files objects) version ≡ version_at objects version
same_version files objects version = ap version_by (loaded_at files objects (commit_name version) (commit_loaded files version))

-- so many versions from one on
pub same_versions_from : (files : List (List ℕ)) (objects : Objects) (count version : ℕ) → versions_from count version (loaded files objects) ≡ versions_from count version objects
unfolding versions_from
same_versions_from files objects zero version = refl
same_versions_from files objects (suc count) version =
    ap (λ (found : Version). found ∷ versions_from count (version + 1) (loaded files objects)) (same_version files objects version)
    ∙ ap (λ (more : List Version). version_at objects version ∷ more) (same_versions_from files objects count (version + 1))

pub same_versions : (files : List (List ℕ)) (objects : Objects) → versions_of (loaded files objects) ≡ versions_of objects
same_versions files objects = same_versions_from files objects (commit_count (loaded files objects)) 0 ∙ ap (λ n. versions_from n 0 objects) (same_count files objects)

-- ---- the commits that a log is seen as

pub same_log : (files : List (List ℕ)) (objects : Objects) → log_of (loaded files objects) ≡ log_of objects
unfolding log_of
same_log files objects = ap commits_of (same_versions files objects)

pub same_replayed : (files : List (List ℕ)) (objects : Objects) → replayed false (loaded files objects) ≡ replayed false objects
same_replayed files objects = same_log files objects

-- ---- its checkpoints

-- a checkpoint that is one of the log's commits is so without the other files
same_sound : (files : List (List ℕ)) (objects : Objects) (version : ℕ) (bytes : List ℕ) → IsSoundCheckpoint objects version bytes → IsSoundCheckpoint (loaded files objects) version bytes
same_sound files objects version bytes sound = record {
  commits = sound.commits;
  stand = ap (commits_in 0) (same_versions_from files objects (suc version) 0) ∙ sound.stand;
  checkpoint = sound.checkpoint;
}

-- checkpoints that are sound are so without the other files
pub restores : (objects : Objects) (files : List (List ℕ)) (use_checkpoints : Bool) → RestoresWell use_checkpoints objects → RestoresWell use_checkpoints (loaded files objects)
restores objects files use_checkpoints well = λ on. λ name version bytes is stands asked.
    same_sound files objects version bytes (well on name version bytes is (stands_of_loaded files objects name bytes stands) asked)
