-- How a session was driven that only reads.
use Rattle.std.specs.Prelude.{◌≡◌, ◌≤◌, ℕ, ◌+◌, [], length, map, false, Option, Some, None, String, Vec, string_bytes}
use Rattle.std.specs.declared.alloc.Global.{Global}
use Rattle.store_core.specs.Objects.{Objects, names_of}
use Rattle.session_core.specs.Sessions.{AllAsked}
use Rattle.session_core.specs.Shown.{Shows}
use Rattle.session_core.specs.Talks.{Asked, Talk, Told, has_lost, heard}

-- the names of these objects, if any are given
abbrev pub AreNames : Option (Vec (String Global) Global) → Objects → Type 0
AreNames None objects = Unit {0}
AreNames (Some names) objects = map string_bytes names.items ≡ names_of objects

-- By a talk of its own that shows these objects, in which it made just calls that its job asks for and none was lost, and behind which
-- the outcome is one that its job tells. What was known before it was told in the talk that goes before.
pub record ReadsBy {J O : Type 0} (asks : J → (before talk : Talk) → Asked → Type 0) (ends : J → (before talk : Talk) → O → Type 0) (job : J) (most : ℕ) (before : Talk) (outcome : O) (objects : Objects) : Type 0 where
  pub talk : Talk
  pub shown : Shows talk objects
  pub asked : AllAsked (asks job before) [] talk
  pub unlost : has_lost talk ≡ false
  pub ended : ends job before talk outcome
  pub few : length talk ≤ most

-- So far it was driven by this talk, up to an answer that it hasn't taken.
pub record IsFolderDriven {N : Type 0} (fits : N → Talk → Option Asked → Type 0) (left : N → ℕ) (asks : Talk → Asked → Type 0) (first session : N) (reply : Option Told) (objects : Objects) : Type 0 where
  pub talk : Talk
  pub taken : Talk
  pub asked : Option Asked
  pub fit : fits session taken asked
  pub all : heard taken asked reply ≡ talk
  pub shown : Shows talk objects
  pub asked_for : AllAsked asks [] talk
  pub unlost : has_lost talk ≡ false
  pub few : length talk + left session ≤ left first
