-- Where a session goes with an answer, and what became of one that was driven over a store.
use Rattle.std.specs.Prelude.{◌≡◌, ◌<◌, ◌≤◌, ℕ, ◌+◌, [], ◌∷◌, ◌++◌, length, Bool, true, false, Option, None, Some}
use Rattle.session_core.specs.Stores.{State, Answers, MayAnswer, Talked}
use Rattle.session_core.specs.Talks.{Asked, Told, Talk, Kind, asked_view, heard, has_lost, is_lost, kind_of, Bears, CountsTalk}
use Rattle.session_core.specs.declared.session.Step.{Step}
use Rattle.session_core.specs.declared.session.Step.TheVariants.{Ask, Done}

-- A session that asks waits for an answer to that call and has fewer calls left; one that tells its outcome is done.
abbrev pub Steps : {N O : Type 0} → (awaits : N → Option Kind) (left : N → ℕ) (done : N → Bool) (old new : N) → Step O → Type 0
Steps awaits left done old new (Ask request) = (awaits new ≡ Some (kind_of (asked_view request))) × (left new < left old) × (done new ≡ false)
Steps awaits left done old new (Done outcome) = done new ≡ true

-- Behind this talk it makes a call that its job asks for then, or tells an outcome that its job tells then.
abbrev pub Goes : {N O : Type 0} → (fits : N → Talk → Option Asked → Type 0) (asks : Talk → Asked → Type 0) (ends : Talk → O → Type 0) → N → Talk → Step O → Type 0
Goes fits asks ends new talk (Ask request) = fits new talk (Some (asked_view request)) × asks talk (asked_view request)
Goes fits asks ends new talk (Done outcome) = ends talk outcome

-- the answer that was just told, if one was, is that the call was lost
abbrev pub hears_lost : Option Told → Bool
hears_lost None = false
hears_lost (Some told) = is_lost told

-- It asks for more only where no call was just lost, and its outcome tells of a lost call just where one was: the last one.
abbrev pub TellsLost : {O : Type 0} → (lost : O → Bool) → Option Told → Step O → Type 0
TellsLost lost told (Ask request) = hears_lost told ≡ false
TellsLost lost told (Done outcome) = lost outcome ≡ hears_lost told

-- each call of a talk was one that is asked for behind those before it
abbrev pub AllAsked : (asks : Talk → Asked → Type 0) → (before talk : Talk) → Type 0
AllAsked asks before [] = Unit {0}
AllAsked asks before (call ∷ talk) = asks before call.0 × AllAsked asks (before ++ call ∷ []) talk

-- How a session was driven over a store: by some talk of its own, which the store gave, in which it made just calls that its job
-- asks for, and behind which the outcome is one that its job tells. What was known before it was told in the talk that goes
-- before.
pub record Drives {J O : Type 0} (asks : J → (before talk : Talk) → Asked → Type 0) (ends : J → (before talk : Talk) → O → Type 0) (lost : O → Bool) (makes : Talk → Type 0) (is_reliable : Type 0) (job : J) (most : ℕ) (before : Talk) (outcome : O) (old new : State) (faults later : ℕ) : Type 0 where
  pub talk : Talk
  -- a store answers so, also one that loses calls
  pub talked : Talked MayAnswer old talk new
  -- these calls were made, and no others
  pub called : makes talk
  -- one that loses none answers exactly so
  pub exact : is_reliable → Talked Answers old talk new
  pub asked : AllAsked (asks job before) [] talk
  pub ended : ends job before talk outcome
  -- what stands now bears the talk, and what went before it, where what stood then bore that
  pub borne : Bears new.0 talk
  pub still_borne : Bears old.0 before → Bears new.0 before
  pub counted : CountsTalk talk faults later
  -- the outcome tells of a lost call just where one was lost
  pub told : lost outcome ≡ has_lost talk
  pub few : length talk ≤ most

-- So far a session was driven by this talk, up to an answer that it hasn't taken.
pub record IsDriven {N : Type 0} (fits : N → Talk → Option Asked → Type 0) (left : N → ℕ) (asks : Talk → Asked → Type 0) (makes : Talk → Type 0) (is_reliable : Type 0) (first session : N) (reply : Option Told) (old now : State) (faults later : ℕ) : Type 0 where
  pub talk : Talk
  pub taken : Talk
  pub asked : Option Asked
  pub fit : fits session taken asked
  pub all : heard taken asked reply ≡ talk
  pub talked : Talked MayAnswer old talk now
  pub called : makes talk
  pub exact : is_reliable → Talked Answers old talk now
  pub asked_for : AllAsked asks [] talk
  pub counted : CountsTalk talk faults later
  -- no call but the last one was lost
  pub heard : has_lost talk ≡ hears_lost reply
  pub few : length talk + left session ≤ left first
