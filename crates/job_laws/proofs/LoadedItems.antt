-- The data files that a read from a place on meets are loaded, and it hands out the same.
use Rattle.std.proofs.Common.{◌≡◌, ◌∙◌, ◌<◌, ◌≤◌, ◌+◌, ◌-◌, ◌++◌, ℕ, zero, suc, Bool, true, false, List, [], ◌∷◌, Contains, Option, Some, None, Result, Ok, cond, filter, length, map, not, refl, sym, ap, subst, add-one, arith}
use Rattle.std.specs.Prelude.{◌||◌}
use Rattle.std.proofs.lemmas.Bool.{ltb-false}
use Rattle.std.proofs.lemmas.List.Elements.{Contains-append_right}
use Rattle.outcomes.specs.Results.{◌>>=◌, or_refusal}
use Rattle.schema_tree.specs.Tree.{Tree}
use Rattle.row_core.specs.Rows.{Row}
use Rattle.parquet_file.specs.Reading.{rows_at}
use Rattle.store_core.specs.Objects.{Objects}
use Rattle.delta_actions.specs.Kinds.{PathAndKey}
use Rattle.log_reading.specs.FromCheckpoints.{looked_at, no_start}
use Rattle.log_reading.specs.InForce.{SchemaText}
use Rattle.log_reading.specs.Reads.{first_standing}
use Rattle.table_log.specs.Versions.{Version, version_at, versions_from, versions_of}
use Rattle.table_log.specs.Counts.{commit_count}
use Rattle.table_model.specs.declared.reading.Offset.{Offset}
use Rattle.table_store.specs.Groups.{new_files}
use Rattle.table_folder.specs.Loads.{is_loaded, loaded}
use Rattle.lake_script.specs.Tailing.{ReadRows, Item, LogFile, ReadRefusal, actions_in, offset_behind_rows, data_file, found_at, end_of, fault_of_version, hand, hand_on, handed_by, is_file_before, is_done, item_before, items_at, items_from, items_in, missing_file, numbered_files, or_bad_file, paths_in, rows_behind, rows_left_of_file, file_rows, schema_at, schema_for, unless_beyond, unless_gone, unless_no_file, unless_removed, version_fault, versions_at}
use Rattle.job_laws.proofs.Loaded.{loaded_at}
use Rattle.job_laws.proofs.SameLogs.{same_versions}

-- ---- what a list contains

-- the first one is an element
first_in : {A : Type 0} (x : A) (xs : List A) → Contains (x ∷ xs) x
first_in x xs = (0, omega arith, refl)

-- an element is one with another in front
behind_first : {A : Type 0} (x : A) (xs : List A) (y : A) → Contains xs y → Contains (x ∷ xs) y
behind_first x xs y has = Contains-append_right (x ∷ []) xs y has

-- ---- items whose data files are loaded

-- the data file of each item is
abbrev AreLoaded : (files : List (List ℕ)) → List Item → Type 0
AreLoaded files [] = Unit {0}
AreLoaded files (data_file f ∷ items) = (is_loaded files f.path.key ≡ true) × AreLoaded files items
AreLoaded files (version_fault version refusal ∷ items) = AreLoaded files items

-- the same of the versions from a place's on
abbrev AreLoadedFrom : (place : Offset) (files : List (List ℕ)) → List Item → Type 0
AreLoadedFrom place files [] = Unit {0}
AreLoadedFrom place files (data_file f ∷ items) = (place.version ≤ f.version → is_loaded files f.path.key ≡ true) × AreLoadedFrom place files items
AreLoadedFrom place files (version_fault version refusal ∷ items) = AreLoadedFrom place files items

-- one list behind another
both_loaded : (place : Offset) (files : List (List ℕ)) (items more : List Item) → AreLoadedFrom place files items → AreLoadedFrom place files more → AreLoadedFrom place files (items ++ more)
both_loaded place files [] more are others = others
both_loaded place files (data_file f ∷ items) more are others = (are.0, both_loaded place files items more are.1 others)
both_loaded place files (version_fault version refusal ∷ items) more are others = both_loaded place files items more are others

-- a file that isn't before a place is of its version or a later one
not_before : (place : Offset) (version file : ℕ) → is_file_before place version file ≡ false → place.version ≤ version
not_before place version file is = ltb-false version place.version (neither _ _ is)
  where
    neither : (b c : Bool) → (b || c) ≡ false → b ≡ false
    neither true c e = absurd cc
    neither false c e = refl

-- so the items from a place on are loaded
loaded_from_place : (place : Offset) (files : List (List ℕ)) (items : List Item) → AreLoadedFrom place files items → AreLoaded files (filter (λ item. not (item_before place item)) items)
loaded_from_place place files [] are = tt
loaded_from_place place files (data_file f ∷ items) are = by_case (is_file_before place f.version f.file) refl (loaded_from_place place files items are.1)
  where
    by_case : (before : Bool) → is_file_before place f.version f.file ≡ before → AreLoaded files (filter (λ item. not (item_before place item)) items)
        → AreLoaded files (cond (not before) (data_file f ∷ filter (λ item. not (item_before place item)) items) (filter (λ item. not (item_before place item)) items))
    by_case true is later = later
    by_case false is later = (are.0 (not_before place f.version f.file is), later)
loaded_from_place place files (version_fault version refusal ∷ items) are = by_case (item_before place (version_fault version refusal)) (loaded_from_place place files items are)
  where
    by_case : (before : Bool) → AreLoaded files (filter (λ item. not (item_before place item)) items)
        → AreLoaded files (cond (not before) (version_fault version refusal ∷ filter (λ item. not (item_before place item)) items) (filter (λ item. not (item_before place item)) items))
    by_case true later = later
    by_case false later = later

-- ---- the files that a log's versions add

-- those of one version, counted from one on
numbered_loaded : (place : Offset) (files : List (List ℕ)) (version file : ℕ) (paths : List PathAndKey) → ((name : List ℕ) → Contains (map (λ path. path.key) paths) name → place.version ≤ version → is_loaded files name ≡ true)
    → AreLoadedFrom place files (map data_file (numbered_files version file paths))
numbered_loaded place files version file [] all = tt
numbered_loaded place files version file (path ∷ paths) all =
    (all path.key (first_in path.key (map (λ p. p.key) paths)), numbered_loaded place files version (suc file) paths (λ name has. all name (behind_first path.key (map (λ p. p.key) paths) name has)))

-- a version's fault, or its files
version_loaded : (place : Offset) (files : List (List ℕ)) (version : ℕ) (fault : Option ReadRefusal) (paths : List PathAndKey) → ((name : List ℕ) → Contains (map (λ path. path.key) paths) name → place.version ≤ version → is_loaded files name ≡ true)
    → AreLoadedFrom place files (items_in version fault paths)
version_loaded place files version (Some refusal) paths all = tt
version_loaded place files version None paths all = numbered_loaded place files version 0 paths all

-- The files that a log's versions from a place's on add are loaded.
pub record AddsLoaded (objects : Objects) (place : Offset) (files : List (List ℕ)) : Type 0 where
  pub each : (version : ℕ) (name : List ℕ) → Contains (map (λ path. path.key) (paths_in (version_at objects version))) name → place.version ≤ version → version < commit_count objects → is_loaded files name ≡ true

-- those of so many versions of the log
versions_loaded : (objects : Objects) (place : Offset) (files : List (List ℕ)) (told : SchemaText) → AddsLoaded objects place files → (count version : ℕ) → version + count ≤ commit_count objects → AreLoadedFrom place files (items_from told place version (versions_from count version objects))
unfolding versions_from
versions_loaded objects place files told adds zero version within = tt
versions_loaded objects place files told adds (suc count) version within =
    let small : version < commit_count objects = omega (arith, within) in
    both_loaded place files (items_in version (fault_of_version told place version (version_at objects version)) (paths_in (version_at objects version))) (items_from told place (suc version) (versions_from count (version + 1) objects))
    (version_loaded place files version (fault_of_version told place version (version_at objects version)) (paths_in (version_at objects version)) (λ name has from. adds.each version name has from small))
    (subst (λ (v : ℕ). AreLoadedFrom place files (items_from told place (suc version) (versions_from count v objects))) (sym (add-one version)) (versions_loaded objects place files told adds count (suc version) (omega (arith, within))))

-- all that a read from the place on meets
items_loaded : (objects : Objects) (place : Offset) (files : List (List ℕ)) (told : SchemaText) → AddsLoaded objects place files → AreLoaded files (items_at told place (versions_at false objects place))
items_loaded objects place files told adds =
    loaded_from_place place files (items_from told place 0 (versions_of objects)) (versions_loaded objects place files told adds (commit_count objects) 0 (omega arith))

-- ---- what is handed out

-- the rows of a file
rows_alike : (files : List (List ℕ)) (objects : Objects) (schema : Tree) (file : LogFile) → is_loaded files file.path.key ≡ true → file_rows (loaded files objects) schema file ≡ file_rows objects schema file
unfolding file_rows
rows_alike files objects schema file own =
    ap (λ (found : Option (List ℕ)). or_refusal found (missing_file file.path.text) >>= λ bytes. or_bad_file file (rows_at bytes schema)) (loaded_at files objects file.path.key own)

-- those behind the first of them
pub left_alike : (files : List (List ℕ)) (objects : Objects) (schema : Tree) (file : LogFile) (skip : ℕ) → is_loaded files file.path.key ≡ true → rows_left_of_file (loaded files objects) schema file skip ≡ rows_left_of_file objects schema file skip
left_alike files objects schema file skip own = ap (λ (read : Result (List Row) ReadRefusal). read >>= rows_behind skip file.version) (rows_alike files objects schema file own)

-- the rows of items that are loaded
hand_alike : (files : List (List ℕ)) (objects : Objects) (schema : Tree) (end : Offset) (items : List Item) → AreLoaded files items → (most skip : ℕ) (rows : List Row) (next : Offset)
    → hand (loaded files objects) schema end most skip rows next items ≡ hand objects schema end most skip rows next items
unfolding hand
hand_alike files objects schema end [] are most skip rows next = refl
hand_alike files objects schema end (version_fault version refusal ∷ items) are most skip rows next = refl
hand_alike files objects schema end (data_file f ∷ items) are most skip rows next =
    let later : (part : List Row) → hand (loaded files objects) schema end (most - length part) 0 (rows ++ part) (offset_behind_rows f skip part next) items ≡ hand objects schema end (most - length part) 0 (rows ++ part) (offset_behind_rows f skip part next) items
    = λ part. hand_alike files objects schema end items are.1 (most - length part) 0 (rows ++ part) (offset_behind_rows f skip part next) in
    ap (λ (read : Result (List Row) ReadRefusal). cond (is_done most skip) (Ok (record { rows = rows; next = next })) (hand_on most rows next read (λ part. hand (loaded files objects) schema end (most - length part) 0 (rows ++ part) (offset_behind_rows f skip part next) items))) (left_alike files objects schema f skip are.0)
    ∙ (λ i. cond (is_done most skip) (Ok (record { rows = rows; next = next })) (hand_on most rows next (rows_left_of_file objects schema f skip) (λ part. later part i)))

-- rows of a log from a place on
pub handed_alike : (files : List (List ℕ)) (objects : Objects) (told : SchemaText) (max : ℕ) (place : Offset) → AddsLoaded objects place files
    → handed_by (loaded files objects) told (versions_at false objects place) max place ≡ handed_by objects told (versions_at false objects place) max place
unfolding handed_by
handed_alike files objects told max place adds =
    let versions : List Version = versions_at false objects place in
    ap (λ (handed : Result ReadRows ReadRefusal). unless_beyond place (length versions) >>= λ within. unless_gone place (first_standing versions) >>= λ stands. actions_in place.version (found_at place versions) >>= λ actions. unless_no_file place (length (new_files actions)) >>= λ inside. unless_removed place actions >>= λ kept. handed)
    (hand_alike files objects told.schema (end_of versions) (items_at told place versions) (items_loaded objects place files told adds) max place.row [] place)

-- ---- the versions and the schema that a read goes by

pub versions_alike : (files : List (List ℕ)) (objects : Objects) (place : Offset) → versions_at false (loaded files objects) place ≡ versions_at false objects place
versions_alike files objects place = ap (looked_at place.version no_start) (same_versions files objects)

pub schema_alike : (files : List (List ℕ)) (objects : Objects) (place : Offset) → schema_at false (loaded files objects) place ≡ schema_at false objects place
schema_alike files objects place = ap (λ (versions : List Version). schema_for no_start versions place) (versions_alike files objects place)
