-- How a session that only reads was driven over any folder, whoever else writes into it: what it was told of the folder's calls, as
-- far as that is visible in front of a version.
use Rattle.std.specs.Prelude.{◌≡◌, ◌⊎◌, ◌<◌, ◌≤◌, ◌+◌, ◌++◌, ℕ, true, false, List, [], ◌∷◌, Option, Some, None, String, Vec, filter, length, map, string_bytes}
use Rattle.std.specs.declared.alloc.Global.{Global}
use Rattle.session_core.specs.Sessions.{AllAsked}
use Rattle.session_core.specs.Talks.{Asked, Talk, Told, get_object, has_lost, heard, list_names, told_memory, told_object}
use Rattle.table_folder.specs.Traces.{FolderCall, lists, reads}
use Rattle.front_reads.specs.Fronts.{is_kept, is_visible}
use Rattle.folder_session.specs.Beside.{TellsNames}

-- the names that were listed before, if they are given
abbrev pub given_names : Option (Vec (String Global) Global) → Option (List (List ℕ))
given_names None = None
given_names (Some names) = Some (map string_bytes names.items)

-- those of the names that are visible
abbrev pub visible_names : Option ℕ → (names : List (List ℕ)) → List (List ℕ)
visible_names None names = names
visible_names (Some front) names = filter (is_kept front) names

-- ---- what is heard of the folder

-- The names were told: by one call, or, where they are given, by no call.
abbrev pub ListsFolder : (given : Option (List (List ℕ))) → (told : Option (List (List ℕ))) → List FolderCall → Type 0
ListsFolder None told calls = calls ≡ lists told ∷ []
ListsFolder (Some names) told calls = (told ≡ Some names) × (calls ≡ [])

-- These calls of the folder were made for one of the session, which was told what they told: of the names those that are visible,
-- unless memory ran out; of a visible name what one read of it found; and of another one that nothing is there, with no call. A put isn't
-- made.
abbrev pub HearsVisible : (front : Option ℕ) → (given : Option (List (List ℕ))) → Asked → Told → List FolderCall → Type 0
HearsVisible front given list_names told calls = (names : List (List ℕ)) × ListsFolder given (Some names) calls × TellsNames (visible_names front names) told
HearsVisible front given (get_object name) told calls =
    ((found : Option (List ℕ)) × (is_visible front name ≡ true) × (told ≡ told_object found) × (calls ≡ reads name (Some found) ∷ []))
    ⊎ ((is_visible front name ≡ false) × (told ≡ told_object None) × (calls ≡ []))
HearsVisible front given asked told calls = (told ≡ told_memory) × (calls ≡ [])

-- These were made for one that was told nothing: the last of them failed, or memory ran out behind it.
abbrev pub FailsVisible : (front : Option ℕ) → (given : Option (List (List ℕ))) → Asked → List FolderCall → Type 0
FailsVisible front given list_names calls = (told : Option (List (List ℕ))) × ListsFolder given told calls
FailsVisible front given (get_object name) calls = (calls ≡ []) ⊎ ((is_visible front name ≡ true) × (calls ≡ reads name None ∷ []))
FailsVisible front given asked calls = ⊥

-- names that are given are told once
abbrev pub given_after : (given : Option (List (List ℕ))) → Asked → Option (List (List ℕ))
given_after given list_names = None
given_after given asked = given

-- which are still given behind a talk
abbrev pub given_behind : (given : Option (List (List ℕ))) → Talk → Option (List (List ℕ))
given_behind given [] = given
given_behind given (call ∷ talk) = given_behind (given_after given call.0) talk

-- These were made for the calls of a talk.
abbrev pub HearsAllVisible : (front : Option ℕ) → (given : Option (List (List ℕ))) → Talk → List FolderCall → Type 0
HearsAllVisible front given [] calls = calls ≡ []
HearsAllVisible front given (call ∷ talk) calls =
    (first more : List FolderCall) × HearsVisible front given call.0 call.1 first × HearsAllVisible front (given_after given call.0) talk more × (calls ≡ first ++ more)

-- ---- how it was driven

-- By a talk of its own, in which it made just calls that its job asks for, was told of none that it was lost, and behind which the outcome
-- is one that its job tells. Just those calls were made of the folder by which it was told what it was.
pub record TalksVisible {J O : Type 0} (asks : J → (before talk : Talk) → Asked → Type 0) (ends : J → (before talk : Talk) → O → Type 0) (makes : List FolderCall → Type 0) (front : Option ℕ) (given : Option (List (List ℕ))) (job : J) (most : ℕ) (before : Talk) (outcome : O) : Type 0 where
  pub talk : Talk
  pub asked : AllAsked (asks job before) [] talk
  pub unlost : has_lost talk ≡ false
  pub ended : ends job before talk outcome
  pub few : length talk ≤ most
  pub calls : List FolderCall
  pub heard : HearsAllVisible front given talk calls
  pub made : makes calls

-- Or so far, up to a call that its job asks for, of which it was told nothing any more.
pub record StopsVisible {J : Type 0} (asks : J → (before talk : Talk) → Asked → Type 0) (makes : List FolderCall → Type 0) (front : Option ℕ) (given : Option (List (List ℕ))) (job : J) (most : ℕ) (before : Talk) : Type 0 where
  pub talk : Talk
  pub asked : AllAsked (asks job before) [] talk
  pub last : Asked
  pub asked_last : asks job before talk last
  pub few : length talk < most
  pub calls : List FolderCall
  pub heard : HearsAllVisible front given talk calls
  pub behind : List FolderCall
  pub failed : FailsVisible front (given_behind given talk) last behind
  pub made : makes (calls ++ behind)

-- So far it was driven by this talk, up to an answer that it hasn't taken.
pub record IsHearing {N : Type 0} (fits : N → Talk → Option Asked → Type 0) (left : N → ℕ) (asks : Talk → Asked → Type 0) (makes : List FolderCall → Type 0) (front : Option ℕ) (given still : Option (List (List ℕ))) (first session : N) (reply : Option Told) : Type 0 where
  pub talk : Talk
  pub taken : Talk
  pub asked : Option Asked
  pub fit : fits session taken asked
  pub all : heard taken asked reply ≡ talk
  pub asked_for : AllAsked asks [] talk
  pub unlost : has_lost talk ≡ false
  pub few : length talk + left session ≤ left first
  pub same : still ≡ given_behind given talk
  pub calls : List FolderCall
  pub heard_by : HearsAllVisible front given talk calls
  pub made : makes calls
