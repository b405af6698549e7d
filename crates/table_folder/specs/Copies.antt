-- Which objects of a store are to be saved, and what a folder holds once some of them are copied into it.
use Rattle.std.specs.Prelude.{◌≡◌, ◌++◌, ◌⊎◌, ℕ, not, List, All, String, take, filter, fold, map, cond, Option, Some, None, bytes_eq, string_bytes}
use Rattle.std.specs.Global.{Global}
use Rattle.std.specs.List.{list_any}
use Rattle.store_core.specs.Objects.{Objects, object_at, names_of, with_object}
use Rattle.table_folder.specs.Kinds.{is_data, is_commit, is_checkpoint}

-- the names that aren't among those loaded
abbrev pub not_loaded : List (List ℕ) → List (List ℕ) → List (List ℕ)
not_loaded loaded names = filter (λ name. not (list_any (bytes_eq name) loaded)) names

-- what is to be saved of the names stored: data files by name, then commits rising, then checkpoints by name
abbrev pub to_save : List (List ℕ) → List (List ℕ) → List (List ℕ)
to_save loaded stored =
    filter is_data (not_loaded loaded stored) ++ filter is_commit (not_loaded loaded stored) ++ filter is_checkpoint (not_loaded loaded stored)

-- what is to be saved of a store's objects
abbrev pub new_names : List (String Global) → Objects → List (List ℕ)
new_names loaded stored = to_save (map string_bytes loaded) (names_of stored)

-- the folder, after bytes that were found are put under a name
abbrev pub with_found : Objects → List ℕ → Option (List ℕ) → Objects
with_found held name None = held
with_found held name (Some bytes) = with_object held name bytes

-- the folder, after the store's object of that name is copied into it. What stands there keeps its bytes
abbrev pub with_copy : Objects → Objects → List ℕ → Objects
with_copy stored held name = with_found held name (object_at stored name)

-- the folder, after the store's objects of these names are copied into it
abbrev pub with_copies : Objects → Objects → List (List ℕ) → Objects
with_copies stored held names = fold (with_copy stored) held names

-- none of these names stands
abbrev pub AreAbsent : Objects → List (List ℕ) → Type 0
AreAbsent held names = All (λ name. object_at held name ≡ None) names

-- the folder holds what it had, and a front of what was to be saved: each of these was absent, and stands whole
abbrev pub HasSavedFront : Objects → List (List ℕ) → Objects → Objects → Type 0
HasSavedFront stored names old new = (n : ℕ) × (AreAbsent old (take n names) × (new ≡ with_copies stored old (take n names)))

-- an object was copied to where its name was absent, or nothing changed
abbrev pub MayHaveSaved : Objects → List ℕ → Objects → Objects → Type 0
MayHaveSaved stored name old new = ((object_at old name ≡ None) × (new ≡ with_copy stored old name)) ⊎ (new ≡ old)

-- what stands under a name once these names are saved: under each of them what the store has
abbrev pub saved_at : Objects → List (List ℕ) → Objects → List ℕ → Option (List ℕ)
saved_at stored names held name = cond (list_any (bytes_eq name) names) (object_at stored name) (object_at held name)
