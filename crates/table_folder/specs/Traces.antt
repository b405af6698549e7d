-- Which calls were made of a folder, with what they told: its trace. It says what was done, also of a folder of which nothing
-- else is known, on a disk that others write to.
use Rattle.std.specs.Prelude.{◌≡◌, ◌++◌, ◌⊎◌, ℕ, List, [], ◌∷◌, Option, None, Some, Result, Ok, Err, slice_get, take, string_bytes}
use Rattle.store_core.specs.Memory.{Stored, stored_objects}
use Rattle.store_core.specs.Objects.{Objects, object_at}
use Rattle.store_core.specs.declared.store.Put.{Put}
use Rattle.store_core.specs.declared.store.Put.TheVariants.{Created, Exists}
use Rattle.table_folder.specs.Copies.{with_found}
use Rattle.table_folder.specs.Faults.{IsNotSaved}
use Rattle.table_folder.specs.declared.fault.FolderFault.{FolderFault}
use Rattle.table_folder.specs.declared.fault.LoadFault.{LoadFault}
use Rattle.table_folder.specs.declared.fault.SaveFault.{SaveFault}
use Rattle.table_folder.specs.declared.fault.SaveFault.TheVariants as saves
use Rattle.table_folder.specs.declared.reason.Reason.TheVariants.{Taken}

-- A call of a folder, with what it told; it told nothing where it failed, or memory ran out.
pub data FolderCall : Type 0 where
  -- the names of the files were listed
  lists : (told : Option (List (List ℕ))) → FolderCall
  -- a file that was listed was read
  reads : (name : List ℕ) (told : Option (Option (List ℕ))) → FolderCall
  -- a file was read that may not be there
  finds : (name : List ℕ) (told : Option (Option (List ℕ))) → FolderCall
  -- a file was to be made of these bytes
  creates : (name bytes : List ℕ) (told : Option Put) → FolderCall
  -- what killed runs left was looked for
  looks : FolderCall

-- what a call told, if it didn't fail
abbrev pub answer_told : {X Y : Type 0} → (X → Y) → Result X FolderFault → Option Y
answer_told view (Ok x) = Some (view x)
answer_told view (Err fault) = None

-- Just these calls were made, one behind the other: `makes` says what one call may make of a folder.
abbrev pub Traced : {F : Type 0} → (makes : F → FolderCall → F → Type 0) → F → List FolderCall → F → Type 0
Traced {F} makes old [] new = new ≡ old
Traced {F} makes old (call ∷ calls) new = (mid : F) × makes old call mid × Traced makes mid calls new

-- a call that makes no file, whatever it tells
abbrev pub MakesNone : FolderCall → Type 0
MakesNone (creates name bytes told) = ⊥
MakesNone call = Unit {0}

-- so are all of these
abbrev pub MakeNone : List FolderCall → Type 0
MakeNone [] = Unit {0}
MakeNone (call ∷ calls) = MakesNone call × MakeNone calls

-- ---- what saving makes

-- a file was made of what was found, if anything was
abbrev pub made_of : (name : List ℕ) → Option (List ℕ) → List FolderCall
made_of name None = []
made_of name (Some bytes) = creates name bytes (Some Created) ∷ []

-- the objects of these names were made, each in a call of its own
abbrev pub made_all : (objects : Objects) → (names : List (List ℕ)) → List FolderCall
made_all objects [] = []
made_all objects (name ∷ names) = made_of name (object_at objects name) ++ made_all objects names

-- This is why an object isn't saved whose file was to be made: there was one of its name; or the call failed, or memory ran out.
abbrev pub IsUnsavedFor : Option Put → (name : List ℕ) → SaveFault → Type 0
IsUnsavedFor (Some Created) name fault = ⊥
IsUnsavedFor (Some Exists) name (saves.NotSaved told reason) = (string_bytes told ≡ name) × (reason ≡ Taken)
IsUnsavedFor (Some Exists) name fault = ⊥
IsUnsavedFor None name fault = Unit {0}

-- The calls that saved one object, which was made; or the one that didn't save it, or none where it isn't told as not saved.
abbrev pub SavesOne : (objects : Objects) → (name : List ℕ) → Result (Unit {0}) SaveFault → List FolderCall → Type 0
SavesOne objects name (Ok done) calls = calls ≡ made_of name (object_at objects name)
SavesOne objects name (Err fault) calls = ((calls ≡ []) × (IsNotSaved {X = Unit {0}} (Err fault) → ⊥))
    ⊎ ((bytes : List ℕ) × (told : Option Put) × (object_at objects name ≡ Some bytes) × IsUnsavedFor told name fault × (calls ≡ creates name bytes told ∷ []))

-- The calls that saved objects of these names, in this order: each was made; or those in front of one were, and that one wasn't
-- saved; or none was tried.
abbrev pub Saves : (objects : Objects) → (names : List (List ℕ)) → Result (Unit {0}) SaveFault → List FolderCall → Type 0
Saves objects names (Ok done) calls = calls ≡ made_all objects names
Saves objects names (Err fault) calls = ((calls ≡ []) × (IsNotSaved {X = Unit {0}} (Err fault) → ⊥))
    ⊎ ((n : ℕ) × (name : List ℕ) × (last : List FolderCall) × (slice_get names n ≡ Some name) × SavesOne objects name (Err fault) last
    × (calls ≡ made_all objects (take n names) ++ last))

-- ---- what loading makes

-- The files of these names were read, each once, in this order, and each call told what it found.
abbrev pub ReadsAll : (names : List (List ℕ)) → List FolderCall → Type 0
ReadsAll [] calls = calls ≡ []
ReadsAll (name ∷ names) calls = (found : Option (List ℕ)) × (more : List FolderCall) × ReadsAll names more × (calls ≡ reads name (Some found) ∷ more)

-- The files in front of one of these names were read so, and then that one as the last, whatever was told of it.
abbrev pub ReadsUpToOneFile : (names : List (List ℕ)) → List FolderCall → Type 0
ReadsUpToOneFile names calls =
    (n : ℕ) × (name : List ℕ) × (told : Option (Option (List ℕ))) × (front : List FolderCall) × (slice_get names n ≡ Some name) × ReadsAll (take n names) front
    × (calls ≡ front ++ reads name told ∷ [])

-- the objects, with what reads of files found
abbrev pub told_objects : Objects → List FolderCall → Objects
told_objects objects [] = objects
told_objects objects (reads name (Some found) ∷ calls) = told_objects (with_found objects name found) calls
told_objects objects (call ∷ calls) = told_objects objects calls

-- The calls that read the files of these names into a store: all of them, of which it has then what was told; or a front of them,
-- where that failed.
abbrev pub ReadsInto : (names : List (List ℕ)) → (old new : Objects) → Result (Unit {0}) LoadFault → List FolderCall → Type 0
ReadsInto names old new (Ok done) calls = ReadsAll names calls × (new ≡ told_objects old calls)
ReadsInto names old new (Err fault) calls = ReadsUpToOneFile names calls

-- The calls that loaded the files of those names that are wanted, of all that one listing told: the listing, and then a read of each
-- one. What was loaded is what was told. Where it failed, that was the listing; or a front of the wanted files was read, or none.
abbrev pub Loads : (wanted : List (List ℕ) → List (List ℕ)) → Result Stored LoadFault → List FolderCall → Type 0
Loads wanted (Ok store) calls =
    (names : List (List ℕ)) × (more : List FolderCall) × ReadsAll (wanted names) more × (stored_objects store ≡ told_objects [] more) × (calls ≡ lists (Some names) ∷ more)
Loads wanted (Err fault) calls = (calls ≡ lists None ∷ [])
    ⊎ ((names : List (List ℕ)) × (more : List FolderCall) × ((more ≡ []) ⊎ ReadsUpToOneFile (wanted names) more) × (calls ≡ lists (Some names) ∷ more))
