-- What a session of a job does next behind a talk of its own.
use Rattle.std.specs.Prelude.{◌≡◌, [], ◌∷◌, Bool, false}
use Rattle.session_core.specs.Sessions.{AllAsked}
use Rattle.session_core.specs.Talks as talks
use Rattle.session_core.specs.Talks.{Asked, Talk}
use Rattle.table_jobs.specs.Jobs.{Asks, Ends, Job, Outcome, is_lost_outcome}

-- what it does next: it asks for a call, or tells its outcome
pub data Move : Type 0 where
  asks : Asked → Move
  tells : Outcome → Move

-- the answer that was given last is that the call was lost
abbrev pub ends_lost : Talk → Bool
ends_lost [] = false
ends_lost (call ∷ []) = talks.is_lost call.1
ends_lost (call ∷ next ∷ talk) = ends_lost (next ∷ talk)

-- What a session of a job does next. Behind a lost call it asks for nothing more, and it tells of one just there.
abbrev pub Does : Job → (before talk : Talk) → Move → Type 0
Does job before talk (asks asked) = Asks job before talk asked × (ends_lost talk ≡ false)
Does job before talk (tells outcome) = Ends job before talk outcome × (is_lost_outcome outcome ≡ ends_lost talk)

-- each call of its talk was one that it asks for behind those before it
abbrev pub HasAsked : Job → (before talk : Talk) → Type 0
HasAsked job before talk = AllAsked (Asks job before) [] talk
