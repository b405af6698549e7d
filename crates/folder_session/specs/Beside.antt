-- What stands once objects are put beside those of a folder, and how a session was driven over both.
use Rattle.std.specs.Prelude.{◌≡◌, ◌⊎◌, ◌≤◌, ◌+◌, ◌++◌, ℕ, Bool, false, List, [], ◌∷◌, Contains, None, Some, Option, IsSome, Result, IfOk, MatchResult, length}
use Rattle.store_core.specs.Calls.{put_told}
use Rattle.store_core.specs.Memory.{stored_objects}
use Rattle.store_core.specs.Names.{commit_name}
use Rattle.store_core.specs.Objects.{Objects, names_of, object_at, with_object}
use Rattle.store_core.specs.declared.store.Put.TheVariants.{Created, Exists}
use Rattle.session_core.specs.Sessions.{AllAsked, Drives}
use Rattle.session_core.specs.Talks.{Asked, Talk, Told, get_object, has_lost, heard, list_names, put_commit, put_file, told_memory, told_names, told_object, told_put}
use Rattle.table_folder.specs.Copies.{with_copies}
use Rattle.table_folder.specs.Traces.{FolderCall, MakeNone, finds, lists, reads}
use Rattle.table_folder.specs.declared.fault.LoadFault.{LoadFault}
use Rattle.folder_session.specs.declared.beside.Beside.{Beside}

-- the objects, with those that stand beside them; what is among both keeps its bytes
abbrev pub with_beside : (objects added : Objects) → Objects
with_beside objects added = with_copies added objects (names_of added)

-- none that stands beside them has the name of one of them
abbrev pub AreApart : (objects added : Objects) → Type 0
AreApart objects added = (name : List ℕ) → IsSome (object_at added name) → object_at objects name ≡ None

-- A session was driven as over a store that loses no call, in which first these objects stood, and behind it those besides that it
-- put, none of which stood.
pub record DrivesBeside {J O : Type 0} (asks : J → (before talk : Talk) → Asked → Type 0) (ends : J → (before talk : Talk) → O → Type 0) (lost : O → Bool) (job : J) (most : ℕ) (before : Talk) (outcome : O) (objects added : Objects) : Type 0 where
  pub drives : Drives asks ends lost (λ talk. Unit {0}) (Unit {0}) job most before outcome (objects, []) (with_beside objects added, []) 0 0
  pub apart : AreApart objects added

-- where it ended, whatever talk was before, of which it is so
abbrev pub EndsOver : {J O : Type 0} → (asks : J → (before talk : Talk) → Asked → Type 0) → (ends : J → (before talk : Talk) → O → Type 0) → (lost : O → Bool) → (fits : Talk → Type 0) → (job : J) → (most : ℕ) → Objects → Result (Beside O) LoadFault → Type 0
EndsOver asks ends lost fits job most objects result = (before : Talk) → fits before → IfOk result (λ ended. DrivesBeside asks ends lost job most before ended.outcome objects (stored_objects ended.added))

-- ---- over any folder

-- a put that created its name made these bytes stand
abbrev pub put_named : (added : Objects) (name bytes : List ℕ) → Told → Objects
put_named added name bytes (told_put Created) = with_object added name bytes
put_named added name bytes told = added

-- what stands beside the folder once a call was told this
abbrev pub put_so : (added : Objects) → Asked → Told → Objects
put_so added (put_file name bytes) told = put_named added name bytes told
put_so added (put_commit version bytes) told = put_named added (commit_name version) bytes told
put_so added asked told = added

-- and once the calls of a talk were
abbrev pub put_by : (added : Objects) → Talk → Objects
put_by added [] = added
put_by added (call ∷ talk) = put_by (put_so added call.0 call.1) talk

-- ---- what is heard of the folder

-- a file was opened, and this was found: one of these names, which were listed, as such, and another one as one that may not be there
abbrev pub IsOpened : (names : List (List ℕ)) → (name : List ℕ) → (found : Option (List ℕ)) → FolderCall → Type 0
IsOpened names name found call = (Contains names name × (call ≡ reads name (Some found))) ⊎ ((Contains names name → ⊥) × (call ≡ finds name (Some found)))

-- of names that were listed just these are told, unless memory ran out
abbrev pub TellsNames : (names : List (List ℕ)) → Told → Type 0
TellsNames names (told_names told) = told ≡ names
TellsNames names told_memory = Unit {0}
TellsNames names told = ⊥

-- of an object is told what was found, or else what stands beside the folder
abbrev pub TellsFound : (added : Objects) → (name : List ℕ) → (found : Option (List ℕ)) → Told → Type 0
TellsFound added name (Some bytes) told = told ≡ told_object (Some bytes)
TellsFound added name None (told_object found) = found ≡ object_at added name
TellsFound added name None told_memory = Unit {0}
TellsFound added name None told = ⊥

-- of a put whose name the folder doesn't have is told what stands beside it
abbrev pub TellsPut : (added : Objects) → (name : List ℕ) → Told → Type 0
TellsPut added name (told_put put) = put ≡ put_told (object_at added name)
TellsPut added name told_memory = Unit {0}
TellsPut added name told = ⊥

-- A put looks whether the folder has its name. Where it has, the folder is listed once more before that is told, which syncs it on
-- a disk: its writer may not have done so yet.
abbrev pub HearsPut : (added : Objects) → (name : List ℕ) → Told → List FolderCall → Type 0
HearsPut added name told calls =
    ((bytes : List ℕ) × (names : List (List ℕ)) × (told ≡ told_put Exists) × (calls ≡ finds name (Some (Some bytes)) ∷ lists (Some names) ∷ []))
    ⊎ (TellsPut added name told × (calls ≡ finds name (Some None) ∷ []))

-- These calls of the folder were made for one of the session, which was told what they told.
abbrev pub HearsCall : (names : List (List ℕ)) → (added : Objects) → Asked → Told → List FolderCall → Type 0
HearsCall names added list_names told calls = TellsNames names told × (calls ≡ [])
HearsCall names added (get_object name) told calls = (found : Option (List ℕ)) × (call : FolderCall) × IsOpened names name found call × TellsFound added name found told × (calls ≡ call ∷ [])
HearsCall names added (put_file name bytes) told calls = HearsPut added name told calls
HearsCall names added (put_commit version bytes) told calls = HearsPut added (commit_name version) told calls ⊎ ((told ≡ told_memory) × (calls ≡ []))

-- and these for the calls of a talk
abbrev pub HearsAll : (names : List (List ℕ)) → (added : Objects) → Talk → List FolderCall → Type 0
HearsAll names added [] calls = calls ≡ []
HearsAll names added (call ∷ talk) calls =
    (first more : List FolderCall) × HearsCall names added call.0 call.1 first × HearsAll names (put_so added call.0 call.1) talk more × (calls ≡ first ++ more)

-- Over any folder, whoever else writes into it, a session was driven by a talk of its own, in which it made just calls that
-- its job asks for, was told of none that it was lost, and behind which the outcome is one that its job tells. Beside the
-- folder stands just what its puts created. The folder was listed first, and then just those calls were made of it by which the
-- session was told what it was.
pub record TalksBeside {J O : Type 0} (asks : J → (before talk : Talk) → Asked → Type 0) (ends : J → (before talk : Talk) → O → Type 0) (makes : List FolderCall → Type 0) (job : J) (most : ℕ) (before : Talk) (outcome : O) (added : Objects) : Type 0 where
  pub talk : Talk
  pub asked : AllAsked (asks job before) [] talk
  pub unlost : has_lost talk ≡ false
  pub ended : ends job before talk outcome
  pub few : length talk ≤ most
  pub put : added ≡ put_by [] talk
  pub names : List (List ℕ)
  pub calls : List FolderCall
  pub heard : HearsAll names [] talk calls
  pub made : makes (lists (Some names) ∷ calls)

-- What comes of a session over any folder, whoever else writes into it: it was driven by a talk of its own, in which it was told what the
-- folder's calls told, and just what its puts created is handed back. No other call is made of the folder. Where it fails, these calls
-- made no file.
abbrev pub EndsBeside : {J O : Type 0} → (asks : J → (before talk : Talk) → Asked → Type 0) → (ends : J → (before talk : Talk) → O → Type 0) → (makes : List FolderCall → Type 0) → (fits : Talk → Type 0) → (job : J) → (most : ℕ) → Result (Beside O) LoadFault → Type 0
EndsBeside asks ends makes fits job most result =
    MatchResult result (λ ended. (before : Talk) → fits before → TalksBeside asks ends makes job most before ended.outcome (stored_objects ended.added)) (λ _. (calls : List FolderCall) × makes calls × MakeNone calls)

-- so far, up to an answer that it hasn't taken
pub record IsTalking {N : Type 0} (fits : N → Talk → Option Asked → Type 0) (left : N → ℕ) (asks : Talk → Asked → Type 0) (makes : List FolderCall → Type 0) (names : List (List ℕ)) (first session : N) (reply : Option Told) (added : Objects) : Type 0 where
  pub talk : Talk
  pub taken : Talk
  pub asked : Option Asked
  pub fit : fits session taken asked
  pub all : heard taken asked reply ≡ talk
  pub asked_for : AllAsked asks [] talk
  pub unlost : has_lost talk ≡ false
  pub few : length talk + left session ≤ left first
  pub put : added ≡ put_by [] talk
  pub calls : List FolderCall
  pub heard_by : HearsAll names [] talk calls
  pub made : makes (lists (Some names) ∷ calls)
