-- A log whose versions are all commits, none of which takes rows away or changes the schema: a read meets its files alone.
use Rattle.std.proofs.Common.{◌≡◌, ℕ, zero, suc, Bool, true, false, List, [], ◌∷◌, ◌++◌, length, map, take, Some, None, refl, sym, ap, ◌∙◌, arith, inl, inr}
use Rattle.std.specs.Prelude.{filter, not, nat_lt, slice_get, ◌==◌, ◌&&◌, ◌||◌, Ok}
use Rattle.std.specs.List.{filter_map}
use Rattle.std.proofs.Math.Bool.{and-false}
use Rattle.std.proofs.lemmas.Bool.{and_parts, cases_Bool, le-ltb}
use Rattle.std.proofs.lemmas.Bool.Decides.{nat_tests}
use Rattle.std.proofs.lemmas.List.{map-append, length-map}
use Rattle.delta_actions.specs.Action.{Action}
use Rattle.delta_actions.specs.In.{meta_data_in}
use Rattle.delta_replay.specs.Keys.{last}
use Rattle.delta_replay.specs.Support.{readable}
use Rattle.schema_tree.specs.Tree.{Tree}
use Rattle.store_core.specs.Objects.{Objects}
use Rattle.log_reading.specs.FromCheckpoints.{no_start}
use Rattle.log_reading.specs.InForce.{SchemaText, in_force, schema_text_at}
use Rattle.log_reading.specs.Reads.{first_from, first_standing, front, removes_rows}
use Rattle.table_log.specs.Versions.{commit}
use Rattle.table_model.specs.declared.reading.Offset.{Offset}
use Rattle.delta_actions.specs.In.{new_files}
use Rattle.outcomes.specs.Results.{refused_if, ◌>>=◌}
use Rattle.log_rows.specs.Tailing.{LogFile, Item, data_file, numbered_files, fault_of_version, items_from, is_file_before, item_before, items_at, unless_beyond, unless_gone, unless_no_file, actions_in, bad_place, hand, handed_by, is_start, schema_for}

-- ---- its files

-- the files of commits, whose versions are counted from one on
abbrev pub files_from : ℕ → List (List Action) → List LogFile
files_from version [] = []
files_from version (actions ∷ commits) = numbered_files version 0 (new_files actions) ++ files_from (suc version) commits

-- the files from that of a place on
abbrev pub files_at : Offset → List (List Action) → List LogFile
files_at place commits = filter (λ file. not (is_file_before place file.version file.file)) (files_from 0 commits)

-- the actions of a version's commit
abbrev pub commit_at : ℕ → List (List Action) → List Action
commit_at version [] = []
commit_at zero (actions ∷ commits) = actions
commit_at (suc version) (actions ∷ commits) = commit_at version commits

-- ---- commits that keep what was there

-- no commit takes rows away
abbrev pub RemoveNone : List (List Action) → Type 0
RemoveNone [] = Unit {0}
RemoveNone (actions ∷ commits) = (removes_rows actions ≡ false) × RemoveNone commits

-- no commit has a metadata
abbrev pub TellNone : List (List Action) → Type 0
TellNone [] = Unit {0}
TellNone (actions ∷ commits) = (last (filter_map meta_data_in actions) ≡ None) × TellNone commits

-- no commit behind the first has one
abbrev pub TellNoneLater : List (List Action) → Type 0
TellNoneLater [] = Unit {0}
TellNoneLater (actions ∷ commits) = TellNone commits

-- no commit takes rows away, and none behind the first has a metadata
abbrev pub KeepsRows : List (List Action) → Type 0
KeepsRows commits = RemoveNone commits × TellNoneLater commits

-- ---- what a read meets

-- a list of data files is filtered as the files are
filter-files : (place : Offset) (files : List LogFile) → filter (λ item. not (item_before place item)) (map data_file files) ≡ map data_file (filter (λ file. not (is_file_before place file.version file.file)) files)
filter-files place [] = refl
filter-files place (file ∷ files) =
    elim (cases_Bool (not (is_file_before place file.version file.file))) [
      | inl ahead ↦ rw (ahead, filter-files place files) refl
      | inr before ↦ rw (before, filter-files place files) refl
    ]

module _ (told : SchemaText) (place : Offset) where
  -- nothing is wrong with a commit without a metadata
  no_fault : (version : ℕ) (actions : List Action) → removes_rows actions ≡ false → last (filter_map meta_data_in actions) ≡ None → fault_of_version told place version (commit actions) ≡ None
  no_fault version actions kept none = rw (kept, none, and-false (nat_lt place.version version)) refl

  -- nor with the first commit
  no_first_fault : (actions : List Action) → removes_rows actions ≡ false → fault_of_version told place 0 (commit actions) ≡ None
  no_first_fault actions kept = rw (kept, le-ltb place.version 0 (omega arith)) refl

  later_items : (version : ℕ) (commits : List (List Action)) → RemoveNone commits → TellNone commits → items_from told place version (map commit commits) ≡ map data_file (files_from version commits)
  later_items version [] kept none = refl
  later_items version (actions ∷ commits) kept none =
      rw (no_fault version actions kept.0 none.0, later_items (suc version) commits kept.1 none.1) (sym (map-append data_file (numbered_files version 0 (new_files actions)) (files_from (suc version) commits)))

  all_items : (commits : List (List Action)) → KeepsRows commits → items_from told place 0 (map commit commits) ≡ map data_file (files_from 0 commits)
  all_items [] keeps = refl
  all_items (actions ∷ commits) keeps =
      rw (no_first_fault actions keeps.0.0, later_items 1 commits keeps.0.1 keeps.1) (sym (map-append data_file (numbered_files 0 0 (new_files actions)) (files_from 1 commits)))

-- a read meets the files from that of its place on
pub plain_items : (told : SchemaText) (place : Offset) (commits : List (List Action)) → KeepsRows commits → items_at told place (map commit commits) ≡ map data_file (files_at place commits)
plain_items told place commits keeps =
    ap (λ (items : List Item). filter (λ item. not (item_before place item)) items) (all_items told place commits keeps) ∙ filter-files place (files_from 0 commits)

-- ---- whether a read can begin at a place

-- all commits stand in front
pub plain_front : (commits : List (List Action)) → front (map commit commits) ≡ commits
plain_front [] = refl
plain_front (actions ∷ commits) = ap (λ (more : List (List Action)). actions ∷ more) (plain_front commits)

first_stays : (at version : ℕ) (commits : List (List Action)) → first_from at version (map commit commits) ≡ at
first_stays at version [] = refl
first_stays at version (actions ∷ commits) = first_stays at (suc version) commits

-- none is missing
pub plain_first : (commits : List (List Action)) → first_standing (map commit commits) ≡ 0
plain_first commits = first_stays 0 0 commits

-- so none is gone
pub plain_gone : (place : Offset) (commits : List (List Action)) → unless_gone place (first_standing (map commit commits)) ≡ Ok tt
plain_gone place commits = rw (plain_first commits, le-ltb place.version 0 (omega arith)) refl

-- the actions of a version
pub plain_actions : (at version : ℕ) (commits : List (List Action)) → actions_in version (slice_get (map commit commits) at) ≡ Ok (commit_at at commits)
plain_actions at version [] = refl
plain_actions zero version (actions ∷ commits) = refl
plain_actions (suc at) version (actions ∷ commits) = plain_actions at version commits

-- they take no rows away
pub plain_kept : (version : ℕ) (commits : List (List Action)) → RemoveNone commits → removes_rows (commit_at version commits) ≡ false
plain_kept version [] kept = refl
plain_kept zero (actions ∷ commits) kept = kept.0
plain_kept (suc version) (actions ∷ commits) kept = plain_kept version commits kept.1

-- at the start of a version there is no file too few
start_file : (place : Offset) (n : ℕ) → is_start place ≡ true → unless_no_file place n ≡ Ok tt
start_file place n start =
    let parts = and_parts (place.file == 0) (place.row == 0) start in
    let file : place.file ≡ 0 = grind (arith, nat_tests, parts.0) in
    let row : place.row ≡ 0 = grind (arith, nat_tests, parts.1) in
    let inside : (nat_lt n place.file || (place.file == n && nat_lt 0 place.row)) ≡ false = grind (arith, nat_tests, file, row) in
    ap (λ (b : Bool). refused_if b (bad_place place.version)) inside

-- What is handed out of commits that keep what was there: rows of their files alone.
pub plain_handed : (objects : Objects) (told : SchemaText) (commits : List (List Action)) (max : ℕ) (place : Offset) → KeepsRows commits → handed_by objects told (map commit commits) max place
    ≡ (unless_beyond place (length commits) >>= λ within. unless_no_file place (length (new_files (commit_at place.version commits))) >>= λ file.
    hand objects told.schema (record { version = length commits; file = 0; row = 0 }) max place.row [] place (map data_file (files_at place commits)))
unfolding handed_by
plain_handed objects told commits max place keeps = by_start (is_start place) refl
  where
    by_start : (start : Bool) → is_start place ≡ start → handed_by objects told (map commit commits) max place
        ≡ (unless_beyond place (length commits) >>= λ within. unless_no_file place (length (new_files (commit_at place.version commits))) >>= λ file.
        hand objects told.schema (record { version = length commits; file = 0; row = 0 }) max place.row [] place (map data_file (files_at place commits)))
    by_start true e =
        rw (length-map commits commit, plain_gone place commits, e, start_file place 0 e, start_file place (length (new_files (commit_at place.version commits))) e, plain_items told place commits keeps) refl
    by_start false e =
        rw (length-map commits commit, plain_gone place commits, e, plain_actions place.version place.version commits, plain_kept place.version commits keeps.0, plain_items told place commits keeps) refl

-- ---- the schema in force

none_told : (commits : List (List Action)) → TellNone commits → (n : ℕ) → filter_map schema_text_at (take n (map commit commits)) ≡ []
none_told commits none zero = refl
none_told [] none (suc n) = refl
none_told (actions ∷ commits) none (suc n) = rw none.0 (none_told commits none.1 n)

-- the first commit's, where no later one has a metadata
pub first_in_force : (told : SchemaText) (version : ℕ) (actions : List Action) (commits : List (List Action)) → schema_text_at (commit actions) ≡ Some told → TellNone commits → in_force version (map commit (actions ∷ commits)) ≡ Some told
first_in_force told version actions commits tells none = rw (tells, none_told commits none version) refl

-- So a read goes by the first commit's schema, where the table is read.
pub plain_schema_for : (told : SchemaText) (schema : Tree) (place : Offset) (actions : List Action) (commits : List (List Action)) → readable (actions ∷ commits) ≡ Ok schema → schema_text_at (commit actions) ≡ Some told → TellNone commits
    → schema_for no_start (map commit (actions ∷ commits)) place ≡ Ok told
unfolding schema_for
plain_schema_for told schema place actions commits reads tells none = rw (plain_front commits, reads, tells, none_told commits none place.version) refl
